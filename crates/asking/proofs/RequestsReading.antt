-- Reading a text's options one after the other: what the options left come to. Assumes nothing.
use Prim.Native.Nat.{ℕ, zero, suc, ◌+◌, ◌≤◌, ◌<◌, min}
use native.Mathlib.Omega.{arith}
use mathlib.Core.Path.{◌≡◌, refl, sym, ap, ◌∙◌}
use mathlib.Core.List.{List}
use borrow.Author.Tests.{lt-ltb, le-ltb}
use lib.ListN.{length}
use Rattle.asking.specs.declared.requests.Request.{Request}
use Rattle.asking.specs.declared.requests.Step.{Step}
use Rattle.asking.specs.declared.requests.Broken.{Broken}
use Rattle.std.specs.Prelude.{Result, Ok, Err}
use Rattle.asking.specs.Request.{nothing, with_setting}
use Rattle.asking.specs.Options.{Onward, step_at, broken_at, going_on, options_from, request_of}

-- `most` options at most are left from `at` on
pub record Reading (text : List ℕ) (asked : Request) (at : ℕ) : Type 0 where
  pub most : ℕ
  pub enough : length text ≤ at + most
  pub whole : options_from most text asked at ≡ request_of text

pub start : (text : List ℕ) {asked : Request} → asked ≡ nothing → Reading text asked 0
start text e = record { most = length text; enough = omega arith; whole = rw e }

-- one option is read, and fewer are left
record Rest (text : List ℕ) (asked : Request) (at most : ℕ) : Type 0 where
  fewer : ℕ
  one_less : most ≡ fewer + 1
  unrolled : options_from most text asked at ≡ going_on (broken_at at (step_at text at)) asked (options_from fewer text)

rest_of : (text : List ℕ) (asked : Request) (at most : ℕ) → at < length text → length text ≤ at + most → Rest text asked at most
unfolding options_from
rest_of text asked at zero h enough = absurd (omega arith)
rest_of text asked at (suc fewer) h enough = record { fewer = fewer; one_less = omega arith; unrolled = rw (lt-ltb at (length text) h) }

pub done : (text : List ℕ) {asked : Request} {at : ℕ} → Reading text asked at → length text ≤ at → Ok asked ≡ request_of text
unfolding options_from
done text {asked} {at} r h = go r.most ∙ r.whole
  where
    go : (most : ℕ) → Ok asked ≡ options_from most text asked at
    go zero = refl
    go (suc most) = rw (le-ltb at (length text) h)

module _ (text : List ℕ) {asked : Request} {at : ℕ} (r : Reading text asked at) (h : at < length text) {step : Result Step Broken} (is-step : step ≡ broken_at at (step_at text at)) where
  abbrev rest : Rest text asked at r.most
  rest = rest_of text asked at r.most h r.enough

  goes : {x : Result Step Broken} → step ≡ x → request_of text ≡ going_on x asked (options_from rest.fewer text)
  goes e = sym r.whole ∙ rest.unrolled ∙ ap (λ (y : Result Step Broken). going_on y asked (options_from rest.fewer text)) (sym is-step ∙ e)

  pub wrong : {broken : Broken} → step ≡ Err broken → Err broken ≡ request_of text
  wrong e = sym (goes e)

  pub further : Onward text at step → {taken : Step} → step ≡ Ok taken → at < taken.next
  further onward e = let next = rw e at onward in omega arith

  pub next : Onward text at step → {taken : Step} → step ≡ Ok taken → {request : Request} → request ≡ with_setting taken.setting asked
      → Reading text request taken.next
  next onward {taken} e {request} is-request = record {
    most = rest.fewer;
    enough = omega (arith, rest.one_less, r.enough, further onward e);
    whole = ap (λ (x : Request). options_from rest.fewer text x taken.next) is-request ∙ sym (goes e);
  }

-- what begins behind a later index begins behind an earlier one
pub from-before : {E : Type 0} (text : List ℕ) (at value : ℕ) (step : Result Step E) → min (at + 1) (length text) ≤ value → Onward text value step
    → Onward text at step
from-before text at value (Ok step) h onward = omega arith
from-before text at value (Err fault) h onward = onward
