-- One window of the move, in each direction: from an equivalent place to another, as far as the two sequences are alike and no further than
-- the window. Assumes nothing.
use mathlib.Core.Path.{◌≡◌, sym, ap, ap₂, ◌∙◌, subst}
use mathlib.Core.List.{List, ◌++◌}
use Prim.Native.Nat.{ℕ, ◌+◌, ◌-◌, ◌≤◌, min}
use native.Mathlib.Omega.{arith}
use lib.ListN.{length, take, drop}
use lib.Seq.{slice, length-slice}
use Rattle.definition.specs.Prefix.{lcp, lcs}
use Rattle.definition.proofs.Prefixes.{lcp-le-left, lcp-le-right}
use Rattle.shuffle.specs.Windows.{WindowedRight, WindowedLeft}
use Rattle.shuffle.proofs.Standing.{Stands, extra, added, shorter, shared-right, reference-onward}
use Rattle.shuffle.proofs.Standing.{alternative-onward, shared-left, reference-back, alternative-back}

module _ (target after : List ℕ) where
  -- a change of k reference bases and m alternative ones at q, with its alleles there
  pub record At (k m q : ℕ) (r a : List ℕ) : Type 0 where
    pub stands : Stands target after q
    pub reference : r ≡ slice q (q + k) target
    pub alternative : a ≡ slice q (q + m) after

  -- how far the change may move on, and back, for all that its bases say
  abbrev pub onwards : ℕ → ℕ
  onwards q = lcp target after - q

  abbrev pub backwards : ℕ → ℕ
  backwards q = lcs target after - (shorter target after - q)

  sized : (q k : ℕ) (l : List ℕ) → q + k ≤ length l → length (slice q (q + k) l) ≡ k
  sized q k l h = length-slice q (q + k) l h ∙ same q k
    where
      same : (q k : ℕ) → q + k - q ≡ k
      same q k = omega arith

  ends : (q : ℕ) → Stands target after q → (q + extra target after ≤ length target) × (q + added target after ≤ length after)
  ends q s =
      let b : q ≤ shorter target after = omega (arith, s.alike, lcp-le-left target after, lcp-le-right target after) in
      (omega arith, omega arith)

  abbrev StepsRight : ℕ → ℕ → Type 0
  StepsRight k m = (q w n : ℕ) (r a r' a' : List ℕ) → At k m q r a → q + k + w ≤ length target
      → WindowedRight r a (slice (q + k) (q + k + w) target) r' a' n → (n ≡ min (onwards q) w) × At k m (q + n) r' a'

  steps-right : StepsRight (extra target after) (added target after)
  steps-right q w n r a r' a' at fits win =
      let k : ℕ = extra target after in
      let m : ℕ = added target after in
      let chunk : List ℕ = slice (q + k) (q + k + w) target in
      let s : Stands target after q = at.stands in
      let e : n ≡ min (onwards q) w =
      win.count ∙ ap₂ (λ (x y : List ℕ). lcp (x ++ chunk) (y ++ chunk)) at.reference at.alternative ∙ shared-right target after q s w fits in
      let h : n ≤ w = omega arith in (
        e,
        record {
          stands = record { alike = omega (arith, s.alike); behind = omega (arith, s.behind) };
          reference = win.reference
              ∙ ap (λ (x : List ℕ). take (length x) (drop n (x ++ chunk))) at.reference
              ∙ ap (λ (x : ℕ). take x (drop n (slice q (q + k) target ++ chunk))) (sized q k target (ends q s).0)
              ∙ reference-onward target after q s w fits n h;
          alternative = win.alternative
              ∙ ap (λ (x : List ℕ). take (length x) (drop n (x ++ chunk))) at.alternative
              ∙ ap (λ (x : ℕ). take x (drop n (slice q (q + m) after ++ chunk))) (sized q m after (ends q s).1)
              ∙ alternative-onward target after q s w fits n h;
        },
      )

  pub step_right : (k m : ℕ) → k ≡ extra target after → m ≡ added target after → StepsRight k m
  step_right k m ek em = subst (λ (x : ℕ). StepsRight x m) (sym ek) (subst (λ (x : ℕ). StepsRight (extra target after) x) (sym em) steps-right)

  abbrev StepsLeft : ℕ → ℕ → Type 0
  StepsLeft k m = (q w n : ℕ) (r a r' a' : List ℕ) → At k m q r a → w ≤ q
      → WindowedLeft r a (slice (q - w) q target) r' a' n → (n ≡ min (backwards q) w) × At k m (q - n) r' a'

  steps-left : StepsLeft (extra target after) (added target after)
  steps-left q w n r a r' a' at room win =
      let k : ℕ = extra target after in
      let m : ℕ = added target after in
      let chunk : List ℕ = slice (q - w) q target in
      let s : Stands target after q = at.stands in
      let b : q ≤ shorter target after = omega (arith, s.alike, lcp-le-left target after, lcp-le-right target after) in
      let wide : length chunk ≡ w = length-slice (q - w) q target (omega arith) ∙ back-off q w room in
      let e : n ≡ min (backwards q) w =
      win.count ∙ ap₂ (λ (x y : List ℕ). lcs (chunk ++ x) (chunk ++ y)) at.reference at.alternative ∙ shared-left target after q s w room in
      let h : n ≤ w = omega arith in (
        e,
        record {
          stands = record { alike = omega (arith, s.alike); behind = still (shorter target after) (lcs target after) q n w b s.behind e };
          reference = win.reference
              ∙ ap₂ (λ (x : List ℕ) (y : ℕ). drop (y - n) (take (y + length x - n) (chunk ++ x))) at.reference wide
              ∙ ap (λ (x : ℕ). drop (w - n) (take (w + x - n) (chunk ++ slice q (q + k) target))) (sized q k target (ends q s).0)
              ∙ reference-back target after q s w room n h;
          alternative = win.alternative
              ∙ ap₂ (λ (x : List ℕ) (y : ℕ). drop (y - n) (take (y + length x - n) (chunk ++ x))) at.alternative wide
              ∙ ap (λ (x : ℕ). drop (w - n) (take (w + x - n) (chunk ++ slice q (q + m) after))) (sized q m after (ends q s).1)
              ∙ alternative-back target after q s w room n h;
        },
      )
    where
      back-off : (q w : ℕ) → w ≤ q → q - (q - w) ≡ w
      back-off q w h = omega arith

      still : (N S q n w : ℕ) → q ≤ N → N - q ≤ S → n ≡ min (S - (N - q)) w → N - (q - n) ≤ S
      still N S q n w b h e = omega arith

  pub step_left : (k m : ℕ) → k ≡ extra target after → m ≡ added target after → StepsLeft k m
  step_left k m ek em = subst (λ (x : ℕ). StepsLeft x m) (sym ek) (subst (λ (x : ℕ). StepsLeft (extra target after) x) (sym em) steps-left)
