-- The loop over windows, for both directions: its invariant holds at the start, a window keeps it, and what it leaves at the end is what is
-- promised. Assumes nothing.
use mathlib.Core.Path.{◌≡◌, refl, sym, ap, ◌∙◌, subst}
use mathlib.Core.Logic.{◌⊎◌, inl, inr, ⊎_elim}
use mathlib.Core.List.{List}
use Prim.Native.Nat.{ℕ, ◌+◌, ◌-◌, ◌≤◌, ◌<◌, min}
use native.Mathlib.Omega.{arith}
use borrow.Author.Tests.{lt-ltb, le-ltb}
use mir.Val.{bool_byte}
use lib.Dec.{ltb}
use lib.ListN.{length}
use Rattle.std.proofs.lemmas.Bool.{cases_lt}
use Rattle.definition.specs.declared.Direction.{Direction}
use Rattle.definition.specs.declared.Direction.TheVariants.{Rightward, Leftward}
use Rattle.definition.specs.declared.Piece.{Piece}
use Rattle.definition.specs.Change.{splice}
use Rattle.definition.specs.Place.{right_edge}
use Rattle.definition.proofs.Places.{to-edge}
use Rattle.alleles.specs.declared.Allele.{Allele}
use Rattle.alleles.specs.Held.{held}
use Rattle.alleles.proofs.Laws.{window-length}
use Rattle.shuffle.specs.declared.windows.Stepped.{Stepped}
use Rattle.shuffle.specs.Windows.{Windowed, Before, room, beside, turned, SteppedOn}
use Rattle.shuffle.specs.Slides.{Poised, Slid, edge, moved}
use Rattle.shuffle.proofs.Standing.{extra, added}
use Rattle.shuffle.proofs.SlidesLaws.{Sliding, AtEdge, ended, starts, sizes, slides}

-- the buffers r and a hold the alleles of a change on its way
pub record Turning (direction : Direction) (piece : Piece) (target : List ℕ) (start : ℕ) (inserted : List ℕ) (rn an : ℕ)
    (r a : Allele) (place differing : ℕ) : Type 0 where
  pub heads : (r.head < 2048) × (a.head < 2048)
  pub counts : (r.count ≡ rn) × (a.count ≡ an)
  pub sliding : Sliding direction piece target (splice target start (start + rn) inserted) rn an start (held r) (held a) place differing

-- where a window of the buffer begins is a place of it
turned-inside : (d : Direction) (h n : ℕ) → turned d h n < 2048
turned-inside Rightward h n = omega arith
turned-inside Leftward h n = omega arith

-- a change inside piece and target is on this side of the edge
before : (d : Direction) (piece : Piece) (target : List ℕ) (k q : ℕ) → piece.left.0 ≤ q → q + k ≤ right_edge piece target → Before d target q k (edge d piece target)
unfolding right_edge
before Rightward piece target k q l r = (r, omega arith)
before Leftward piece target k q l r = (l, omega arith)

-- a window that is not full, and that the bases do not cut short, ends at the edge
no_room : (d : Direction) (piece : Piece) (target : List ℕ) (k q n w width : ℕ) → piece.left.0 ≤ q → q + k ≤ right_edge piece target
    → w ≡ min width (room d q k (edge d piece target)) → n < width → n ≤ w → w ≤ n → AtEdge d piece target k (moved d q n)
no_room Rightward piece target k q n w width l r e short below above = omega arith
no_room Leftward piece target k q n w width l r e short below above = omega arith

-- a window is cut short by a differing base, or not
pub cut-short : (n w : ℕ) → ((n < w) × (bool_byte (ltb n w) ≡ 1)) ⊎ ((w ≤ n) × (bool_byte (ltb n w) ≡ 0))
cut-short n w = ⊎_elim (λ l. inl (l, ap bool_byte (lt-ltb n w l))) (λ h. inr (h, ap bool_byte (le-ltb n w h))) (cases_lt n w)

module _ (piece : Piece) (target : List ℕ) (start : ℕ) (r₀ a₀ : Allele) (most : ℕ) (p : Poised piece target start r₀ a₀ most) where
  abbrev pub after : List ℕ
  after = splice target start (start + r₀.count) (held a₀)

  long : length (held a₀) ≡ a₀.count
  long = window-length a₀.bytes a₀.head a₀.count

  pure : min r₀.count (length (held a₀)) ≡ 0
  pure = ap (min r₀.count) long ∙ p.pure

  reference-size : r₀.count ≡ extra target after
  reference-size = (sizes piece target (held a₀) start r₀.count p.left p.right pure).0

  alternative-size : a₀.count ≡ added target after
  alternative-size = sym long ∙ (sizes piece target (held a₀) start r₀.count p.left p.right pure).1

  module _ (direction : Direction) where
    abbrev On : Allele → Allele → ℕ → ℕ → Type 0
    On r a place differing = Turning direction piece target start (held a₀) r₀.count a₀.count r a place differing

    pub turning-starts : On r₀ a₀ start 0
    turning-starts = record {
      heads = (p.reference.start, p.alternative.start);
      counts = (refl, refl);
      sliding = subst (λ (m : ℕ). Sliding direction piece target after r₀.count m start (held r₀) (held a₀) start 0) long
          (starts piece target (held a₀) start r₀.count p.left p.right pure direction (held r₀) (held a₀) p.bases refl);
    }

    module _ (r a : Allele) (place : ℕ) (t : On r a place 0) where
      -- what a window is asked
      pub before-edge : Before direction target place r.count (edge direction piece target)
      before-edge =
          subst (λ (k : ℕ). Before direction target place k (edge direction piece target)) (sym t.counts.0)
          (before direction piece target r₀.count place t.sliding.inside.at_left (to-edge t.sliding.inside))

      -- and what it leaves
      module _ (r' a' : Allele) (width : ℕ) (s : Stepped) (step : SteppedOn direction target place (edge direction piece target) width r a r' a' s) where
        wide : s.size ≡ min width (room direction place r₀.count (edge direction piece target))
        wide = subst (λ (k : ℕ). s.size ≡ min width (room direction place k (edge direction piece target))) t.counts.0 step.size

        pub turns : (differing : ℕ) → ((s.moved < s.size) × (differing ≡ 1)) ⊎ ((s.size ≤ s.moved) × (differing ≡ 0))
            → On r' a' (moved direction place s.moved) differing
        turns differing short = record {
          heads = (
            rw step.reference.head (turned-inside direction r.head s.moved),
            rw step.alternative.head (turned-inside direction a.head s.moved),
          );
          counts = (step.reference.count ∙ t.counts.0, step.alternative.count ∙ t.counts.1);
          sliding = slides piece target after r₀.count a₀.count start reference-size alternative-size
              (held r) (held a) (held r') (held a') place s.moved s.size 0 differing short direction
              t.sliding (omega (arith, wide))
              (subst (λ (k : ℕ). Windowed direction (held r) (held a) (beside direction target place k s.size) (held r') (held a') s.moved)
              t.counts.0 step.windowed);
        }

        -- it is over where a window moved less than it could
        module _ (differing : ℕ) (short : ((s.moved < s.size) × (differing ≡ 1)) ⊎ ((s.size ≤ s.moved) × (differing ≡ 0))) where
          pub turned-out : (probes : ℕ) → s.moved < width
              → probes ≡ (moved direction place s.moved - start) + (start - moved direction place s.moved) + differing
              → Slid direction piece target start r₀ a₀ r' a' (record { place = record { 0 = moved direction place s.moved }; probes = probes })
          turned-out probes less e =
              let q = moved direction place s.moved in
              let u : On r' a' q differing = turns differing short in
              let edge-met : differing ≡ 0 → AtEdge direction piece target r₀.count q =
              λ z. no_room direction piece target r₀.count place s.moved s.size width t.sliding.inside.at_left (to-edge t.sliding.inside)
              wide less step.within (not-short z)
              in let d = ended direction piece target after r₀.count a₀.count start (held r') (held a') q differing u.sliding edge-met in
              record {
                place = d.0;
                probes = e ∙ ap (λ (n : ℕ). (q - start) + (start - q) + n) d.1;
                reference = record {
                  good = record { start = u.heads.0; fits = omega (arith, u.counts.0, p.sizes.reference) };
                  count = u.counts.0;
                  bases = u.sliding.at.reference;
                };
                alternative = record {
                  good = record { start = u.heads.1; fits = omega (arith, u.counts.1, p.sizes.alternative) };
                  count = u.counts.1;
                  bases = u.sliding.at.alternative;
                };
              }
            where
              not-short : differing ≡ 0 → s.size ≤ s.moved
              not-short z = omega (arith, short)
