-- What the public function's contract leaves open: any two results that it allows are equal, and so is what both alleles then hold and where in its array
-- each begins. Not fixed, and not to be seen through a window, are the bytes of its array outside it. Assumes nothing.
use Prim.Native.Nat.{ℕ}
use mathlib.Core.Path.{◌≡◌, sym, ◌∙◌}
use mathlib.Core.List.{List}
use Rattle.alleles.specs.declared.Allele.{Allele}
use Rattle.alleles.proofs.RotatingUnique.{equal}
use Rattle.alleles.proofs.Unique.{Alike}
use Rattle.definition.specs.declared.Direction.{Direction}
use Rattle.definition.specs.declared.Direction.TheVariants.{Rightward, Leftward}
use Rattle.shuffle.specs.declared.windows.Stepped.{Stepped}
use Rattle.shuffle.specs.Windows.{Windowed, WindowedRight, WindowedLeft, Turned, SteppedOn}

-- of a window stored beside both alleles: the count and what both then hold
windowed-right-equal : {r a chunk r₁ r₂ a₁ a₂ : List ℕ} {m n : ℕ}
    → WindowedRight r a chunk r₁ a₁ m → WindowedRight r a chunk r₂ a₂ n → (m ≡ n) × (r₁ ≡ r₂) × (a₁ ≡ a₂)
windowed-right-equal p q =
    let e = equal p.count q.count in
    (e, p.reference ∙ rw e (sym q.reference), p.alternative ∙ rw e (sym q.alternative))

windowed-left-equal : {r a chunk r₁ r₂ a₁ a₂ : List ℕ} {m n : ℕ}
    → WindowedLeft r a chunk r₁ a₁ m → WindowedLeft r a chunk r₂ a₂ n → (m ≡ n) × (r₁ ≡ r₂) × (a₁ ≡ a₂)
windowed-left-equal p q =
    let e = equal p.count q.count in
    (e, p.reference ∙ rw e (sym q.reference), p.alternative ∙ rw e (sym q.alternative))

windowed-equal : (d : Direction) (r a chunk r₁ r₂ a₁ a₂ : List ℕ) {m n : ℕ}
    → Windowed d r a chunk r₁ a₁ m → Windowed d r a chunk r₂ a₂ n → (m ≡ n) × (r₁ ≡ r₂) × (a₁ ≡ a₂)
windowed-equal Rightward r a chunk r₁ r₂ a₁ a₂ p q = windowed-right-equal p q
windowed-equal Leftward r a chunk r₁ r₂ a₁ a₂ p q = windowed-left-equal p q

alike : {d : Direction} {x y z : Allele} {m n : ℕ} → m ≡ n → Turned d x y m → Turned d x z n → y.head ≡ z.head × y.count ≡ z.count
alike e p q = (p.head ∙ rw e (sym q.head), equal p.count q.count)

-- `normalize_alleles_inner`: the window's size as well
pub stepped-equal : (d : Direction) {target : List ℕ} {place edge most : ℕ} {r a r₁ r₂ a₁ a₂ : Allele} {s t : Stepped}
    → SteppedOn d target place edge most r a r₁ a₁ s → SteppedOn d target place edge most r a r₂ a₂ t
    → (s.size ≡ t.size) × ((s.moved ≡ t.moved) × (Alike r₁ r₂ × Alike a₁ a₂))
stepped-equal d p q =
    let e = equal p.size q.size in
    let w = windowed-equal d _ _ _ _ _ _ _ p.windowed (rw e q.windowed) in
    let r = alike w.0 p.reference q.reference in
    let a = alike w.0 p.alternative q.alternative in
    (e, (w.0, (record { head = r.0; count = r.1; bases = w.1 }, record { head = a.0; count = a.1; bases = w.2 })))
