use Rattle.std.proofs.Common.{◌≡◌, ◌/◌, ◌%◌, length, Some, None, sym, ap, ◌∙◌, subst, arith}
use Rattle.std.proofs.lemmas.Bool.{eqb-true}
use Rattle.arena.specs.Records.{record_refusal, fault_of}
use Rattle.arena.specs.Stored.{first_fault, unless}
use Rattle.arena.proofs.Chunks.{record_of_chunk}
use Rattle.arena.proofs.Faults.{none_first, none_more, first_is, asked_is}
use Rattle.arena.proofs.stored.maker.ask.Goals as goal

pub loop-v-init : goal.loop-v-init
loop-v-init c = none_first _ _

pub returns-in-Some : goal.returns-in-Some
returns-in-Some c =
    let b = c.args.bytes.now in
    let n = length b / 8 in
    let whole : length b % 8 ≡ 0 = sym c.as_chunks.ensures.back_len ∙ eqb-true _ _ (sym c.is_empty.ensures ∙ c.if-not-is_empty.false) in
    let read = record_of_chunk b _ _ _ c.loop-v.v _ (omega (arith, c.loop-v-test.true)) c.as_chunks.ensures.front c.from.ensures in
    let here = ap (λ r. fault_of r (length c.as_chunks.result.0.now)) (sym read) ∙ sym c.refusal.ensures ∙ c.in-Some.is in
    let at_n = subst (λ k. (first_fault b k c.loop-v.v ≡ None) × (record_refusal b k c.loop-v.v ≡ Some c.in-Some.refusal)) c.as_chunks.ensures.front_len (c.loop-v.invariant, here) in
    sym (asked_is b whole (omega (arith, c.as_chunks.ensures.front_len)) (omega (arith, c.as_chunks.ensures.front_len)) ∙ first_is b n c.loop-v.v c.in-Some.refusal (omega (arith, c.as_chunks.ensures.front_len, c.loop-v-test.true)) at_n.0 at_n.1)

pub loop-v-preserved : goal.loop-v-preserved
loop-v-preserved c =
    let read = record_of_chunk c.args.bytes.now _ _ _ c.loop-v.v _ (omega (arith, c.loop-v-test.true)) c.as_chunks.ensures.front c.from.ensures in
    none_more _ _ c.loop-v.v c.loop-v.invariant (ap (λ r. fault_of r (length c.as_chunks.result.0.now)) (sym read) ∙ sym c.refusal.ensures ∙ c.in_default.is)

pub returns : goal.returns
returns c =
    let b = c.args.bytes.now in
    let n = length b / 8 in
    let e : length c.as_chunks.result.0.now ≡ n = c.as_chunks.ensures.front_len in
    let whole : length b % 8 ≡ 0 = sym c.as_chunks.ensures.back_len ∙ eqb-true _ _ (sym c.is_empty.ensures ∙ c.if-not-is_empty.false) in
    let all : c.loop-v.v ≡ n = omega (arith, e) in
    let none : first_fault b n n ≡ None = subst (λ k. first_fault b n k ≡ None) all (subst (λ k. first_fault b k c.loop-v.v ≡ None) e c.loop-v.invariant) in
    rw e (sym (asked_is b whole (omega (arith, e)) (omega (arith, e)) ∙ ap (λ o. unless o n) none))
