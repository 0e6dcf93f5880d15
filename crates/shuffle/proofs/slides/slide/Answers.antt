-- Windows in a row keep the change on its way, and where one moves less than it could the change stands at its furthest place.
use Rattle.std.proofs.Common.{refl, inr, arith}
use Rattle.shuffle.proofs.Loop.{turning-starts, before-edge, turns, turned-out, cut-short}
use Rattle.shuffle.proofs.slides.slide.Goals as goal

pub loop-width-init : goal.loop-width-init
loop-width-init c =
    let a = c.args in
    record {
      turning = turning-starts a.piece a.target.now a.start a.alleles.now.reference a.alleles.now.alternative a.most c.requires a.direction;
      some = c.requires.sizes.window;
      longest = c.requires.sizes.longest;
    }

pub normalize_alleles_inner-step-requires-clause-before : goal.normalize_alleles_inner-step-requires-clause-before
normalize_alleles_inner-step-requires-clause-before c =
    let a = c.args in
    let l = c.loop-width in
    rw c.edge_of-edge.ensures
    (before-edge a.piece a.target.now a.start a.alleles.now.reference a.alleles.now.alternative a.most c.requires a.direction
    l.alleles.reference l.alleles.alternative l.place l.invariant.turning)

pub returns-then-step-width : goal.returns-then-step-width
returns-then-step-width c =
    let a = c.args in
    let l = c.loop-width in
    let s = c.normalize_alleles_inner-step in
    rw (c.abs_diff.ensures, c.from.ensures, c.moved_on-place.ensures)
    (turned-out a.piece a.target.now a.start a.alleles.now.reference a.alleles.now.alternative a.most c.requires a.direction
    l.alleles.reference l.alleles.alternative l.place l.invariant.turning s.new.alleles.reference s.new.alleles.alternative l.width s.result
    (rw c.edge_of-edge.ensures at s.ensures) _ (cut-short s.result.moved s.result.size) _ c.if-step-width.true refl)

pub loop-width-preserved : goal.loop-width-preserved
loop-width-preserved c =
    let a = c.args in
    let l = c.loop-width in
    let s = c.normalize_alleles_inner-step in
    record {
      turning = rw c.moved_on-place.ensures
          (turns a.piece a.target.now a.start a.alleles.now.reference a.alleles.now.alternative a.most c.requires a.direction
          l.alleles.reference l.alleles.alternative l.place l.invariant.turning s.new.alleles.reference s.new.alleles.alternative l.width s.result
          (rw c.edge_of-edge.ensures at s.ensures) 0
          (inr (omega (arith, s.ensures.size, c.if-step-width.false), refl)));
      some = omega (arith, c.min-width.ensures, l.invariant.some);
      longest = omega (arith, c.min-width.ensures);
    }
