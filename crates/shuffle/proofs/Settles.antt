-- From a spelled change to its final place: what trimming leaves is poised for the move, and what the move leaves is the definition's.
-- Over both directions. Assumes nothing.
use mathlib.Core.Path.{◌≡◌, refl, sym, ap, ap₂, ◌∙◌, subst}
use mathlib.Core.Logic.{◌⊎◌, inl, inr, ⊎_elim}
use mathlib.Core.Bool.{false, cond}
use mathlib.Core.List.{List}
use Prim.Native.Nat.{ℕ, ◌+◌, ◌-◌, ◌≤◌, ◌<◌}
use native.Mathlib.Omega.{arith}
use borrow.Author.Tests.{ne_eqb}
use lib.ListN.{length, take, drop}
use lib.Seq.{slice, length-slice}
use Rattle.definition.specs.declared.Direction.{Direction}
use Rattle.definition.specs.declared.Piece.{Piece}
use Rattle.definition.specs.Change.{Change, splice, altered, reference_of, trimmed_by, Trimmed, trimmed}
use Rattle.definition.specs.Place.{furthest, stopped_by_base, is_pure, place_of, probes_of, Inside}
use Rattle.definition.proofs.Places.{from-edge, to-edge, equivalent→interval, interval-restored}
use Rattle.definition.proofs.Trims.{trim-facts, length-reference}
use Rattle.definition.proofs.Final.{Pure, pure, trimmed-inside}
use Rattle.definition.proofs.Walks.{is-pure}
use Rattle.alleles.specs.declared.Allele.{Allele}
use Rattle.alleles.specs.Held.{held, Holds}
use Rattle.shuffle.specs.declared.slides.Shuffled.{Shuffled}
use Rattle.definition.proofs.Parts.{lent-part}
use Rattle.shuffle.proofs.SlidesLaws.{inserted-part}
use Rattle.shuffle.specs.Slides.{Sizes, Poised, Part, Slid}
use Rattle.shuffle.specs.declared.moves.Shared.{Shared}
use Rattle.shuffle.specs.Settled.{Asked, Settled, Shares}

not-pure : (t : Trimmed) → 0 < t.reference_size → 0 < t.alternative_size → is_pure t ≡ false
unfolding is_pure
not-pure t h k = rw (ne_eqb t.reference_size 0 (omega arith), ne_eqb t.alternative_size 0 (omega arith))

module _ (direction : Direction) {piece : Piece} {target : List ℕ} {c : Change} {most : ℕ} (asked : Asked piece target c most) where
  abbrev pub t : Trimmed
  t = trimmed direction target c

  abbrev pub after : List ℕ
  after = altered target c

  fits : c.to ≤ length target
  fits = (from-edge piece target asked.right).1

  -- what trimming leaves lies in the change
  pub record Trims (s : Shared) : Type 0 where
    pub in_reference : s.front + s.back ≤ c.to - c.from
    pub in_inserted : s.front + s.back ≤ length c.inserted
    pub start : t.start ≡ c.from + s.front
    pub reference : t.reference_size ≡ c.to - s.back - (c.from + s.front)
    pub alternative : t.alternative_size ≡ length c.inserted - s.back - s.front

  pub trims : {s : Shared} → Shares direction (slice c.from c.to target) c.inserted s → Trims s
  unfolding trimmed trimmed_by reference_of
  trims {s} shares =
      let size : length (reference_of target c) ≡ c.to - c.from = length-reference target c asked.order fits in
      let total = (trim-facts direction (reference_of target c) c.inserted).total in
      record {
        in_reference = omega (arith, shares.front, shares.back);
        in_inserted = omega (arith, shares.front, shares.back);
        start = ap (λ (n : ℕ). c.from + n) (sym shares.front);
        reference = ap₂ ◌-◌ size (ap₂ ◌+◌ (sym shares.front) (sym shares.back)) ∙ omega (arith, asked.order, total, size, shares.front, shares.back);
        alternative = ap (λ (n : ℕ). length c.inserted - n) (ap₂ ◌+◌ (sym shares.front) (sym shares.back)) ∙ omega arith;
      }

  -- both alleles left: it stays
  pub stays : (x y : Allele) (s : Shuffled) → 0 < t.reference_size → 0 < t.alternative_size → s.place.0 ≡ t.start → s.probes ≡ 0
      → Part x t.start t.reference_size target → Part y t.start t.alternative_size after
      → Settled direction piece target c x y s
  unfolding place_of probes_of
  stays x y s h k e f r a = record {
    place = rw (not-pure t h k) e;
    probes = rw (not-pure t h k) f;
    reference = rw e r;
    alternative = rw e a;
  }

  module _ (r a : Allele) (pr : Part r t.start t.reference_size target) (pa : Part a t.start t.alternative_size after)
      (used : (t.reference_size ≡ 0) ⊎ (t.alternative_size ≡ 0)) where
    p : Pure direction piece target c asked.order asked.left asked.right
    p = pure direction piece target c asked.order asked.left asked.right used

    inside : Inside piece target t.reference_size t.start
    inside = trimmed-inside direction piece target c asked.order asked.left asked.right

    -- one allele used up: it is poised for the move
    pub poised : Sizes t.reference_size t.alternative_size most → Poised piece target t.start r a most
    poised sizes = record {
      sizes = record {
        reference = omega (arith, pr.count, sizes.reference);
        alternative = omega (arith, pa.count, sizes.alternative);
        window = sizes.window;
        longest = sizes.longest;
      };
      reference = pr.good;
      alternative = pa.good;
      pure = ⊎_elim (λ z. omega (arith, pr.count, pa.count)) (λ z. omega (arith, pr.count, pa.count)) used;
      left = inside.at_left;
      right = omega (arith, pr.count, to-edge inside);
      bases = pr.bases ∙ ap (λ (n : ℕ). slice t.start (t.start + n) target) (sym pr.count);
    }

    -- and what the move leaves is settled
    restored : splice target t.start (t.start + r.count) (held a) ≡ after
    restored =
        let b = equivalent→interval target after t.start p.here in
        ap₂ (λ (n : ℕ) (x : List ℕ). splice target t.start (t.start + n) x) (pr.count ∙ p.reference)
        (pa.bases ∙ ap (λ (n : ℕ). slice t.start (t.start + n) after) p.alternative)
        ∙ interval-restored target after t.start b.0 b.1

    pub slid-settles : (r' a' : Allele) (s : Shuffled) → Slid direction piece target t.start r a r' a' s → Settled direction piece target c r' a' s
    unfolding place_of probes_of
    slid-settles r' a' s slid = record {
      place = rw (is-pure t used) (slid.place ∙ ap₂ (furthest direction piece target) restored pr.count);
      probes = rw (is-pure t used)
          (slid.probes
          ∙ ap (λ (n : ℕ). (s.place.0 - t.start) + (t.start - s.place.0) + cond (stopped_by_base direction piece target n s.place.0) 1 0) pr.count);
      reference = subst (λ (n : ℕ). Part r' s.place.0 n target) pr.count slid.reference;
      alternative = subst (λ (n : ℕ). Part a' s.place.0 n after) pa.count
          (subst (λ (x : List ℕ). Part a' s.place.0 a.count x) restored slid.alternative);
    }

-- the same, of the numbers and the buffers that the code has: what is shared comes off, and the rest fills two buffers
module _ {direction : Direction} {piece : Piece} {target : List ℕ} {c : Change} {most : ℕ} (asked : Asked piece target c most)
    {s : Shared} (shares : Shares direction (slice c.from c.to target) c.inserted s) where
  tr : Trims direction asked s
  tr = trims direction asked shares

  pub reference-left : c.from + s.front ≤ c.to - s.back
  reference-left = omega (arith, tr.in_reference, asked.order)

  pub back-inside : s.back ≤ c.to
  back-inside = omega (arith, tr.in_reference, asked.order)

  pub inserted-left : s.front + s.back ≤ length c.inserted
  inserted-left = tr.in_inserted

  pub in_target : c.to ≤ length target
  in_target = fits direction asked

  abbrev start : ℕ
  start = c.from + s.front

  abbrev end : ℕ
  end = c.to - s.back

  abbrev last : ℕ
  last = length c.inserted - s.back

  -- the bases between two places, lent and put into a buffer
  filled-part : (r : Allele) (f e : ℕ) (l : List ℕ) → f ≤ e → e ≤ length l
      → Holds r 0 (length (take (e - f) (drop f l))) (take (e - f) (drop f l)) → Part r f (e - f) l
  filled-part r f e l o h w =
      let q : take (e - f) (drop f l) ≡ slice f e l = lent-part f e l in
      let past : e ≡ f + (e - f) = omega arith in
      record {
        good = w.good;
        count = w.count ∙ ap length q ∙ length-slice f e l h;
        bases = w.bases ∙ q ∙ ap (λ (n : ℕ). slice f n l) past;
      }

  pub filled-reference : (r : Allele) → Holds r 0 (length (take (end - start) (drop start target))) (take (end - start) (drop start target))
      → Part r (t direction asked).start (t direction asked).reference_size target
  filled-reference r w = rw (tr.start, tr.reference) (filled-part r start end target reference-left (omega (arith, in_target)) w)

  pub filled-alternative : (a : Allele)
      → Holds a 0 (length (take (last - s.front) (drop s.front c.inserted))) (take (last - s.front) (drop s.front c.inserted))
      → Part a (t direction asked).start (t direction asked).alternative_size (after direction asked)
  unfolding altered
  filled-alternative a w =
      let p : Part a s.front (last - s.front) c.inserted = filled-part a s.front last c.inserted (omega (arith, inserted-left)) (omega arith) w in
      rw (tr.start, tr.alternative)
      (record {
        good = p.good;
        count = p.count;
        bases = p.bases
            ∙ sym (inserted-part target c.inserted c.from c.to s.front (last - s.front) (omega (arith, asked.order, in_target)) (omega (arith, inserted-left)));
      })

  sizes : Sizes (t direction asked).reference_size (t direction asked).alternative_size most
  sizes = record {
    reference = omega (arith, tr.reference, asked.sizes.reference);
    alternative = omega (arith, tr.alternative, asked.sizes.alternative);
    window = asked.sizes.window;
    longest = asked.sizes.longest;
  }

  used-up : (end ≤ start) ⊎ (last ≤ s.front) → ((t direction asked).reference_size ≡ 0) ⊎ ((t direction asked).alternative_size ≡ 0)
  used-up (inl e) = inl (omega (arith, tr.reference))
  used-up (inr e) = inr (omega (arith, tr.alternative))

  module _ {r a : Allele}
      (wr : Holds r 0 (length (take (end - start) (drop start target))) (take (end - start) (drop start target)))
      (wa : Holds a 0 (length (take (last - s.front) (drop s.front c.inserted))) (take (last - s.front) (drop s.front c.inserted))) where
    pub filled-stays : start < end → s.front < last → Settled direction piece target c r a (record { place = record { 0 = start }; probes = 0 })
    filled-stays h k =
        stays direction asked r a (record { place = record { 0 = start }; probes = 0 })
        (omega (arith, tr.reference, h)) (omega (arith, tr.alternative, k)) (sym tr.start) refl (filled-reference r wr) (filled-alternative a wa)

    module _ (one : (end ≤ start) ⊎ (last ≤ s.front)) where
      pub filled-poised : Poised piece target start r a most
      filled-poised =
          subst (λ (n : ℕ). Poised piece target n r a most) tr.start
          (poised direction asked r a (filled-reference r wr) (filled-alternative a wa) (used-up one) sizes)

      pub filled-settles : (r' a' : Allele) (s' : Shuffled) → Slid direction piece target start r a r' a' s' → Settled direction piece target c r' a' s'
      filled-settles r' a' s' slid =
          slid-settles direction asked r a (filled-reference r wr) (filled-alternative a wa) (used-up one) r' a' s'
          (subst (λ (n : ℕ). Slid direction piece target n r a r' a' s') (sym tr.start) slid)
