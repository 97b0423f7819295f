use Rattle.std.proofs.Common.{◌<◌, ◌/◌, length, Some, sym, ap, ◌∙◌, arith}
use Rattle.std.proofs.lemmas.Bool.{cond-true, lt-ltb}
use Rattle.arena.specs.Records.{record_in}
use Rattle.arena.proofs.Chunks.{record_of_chunk}
use Rattle.arena.proofs.stored.record.record_at.Goals as goal

pub returns : goal.returns
returns c =
    let at = c.in_ok-record.ensures.lookup.3 in
    let l : c.args.v < length c.args.bytes.now / 8 = omega (arith, at.0, c.as_chunks.ensures.front_len) in
    let read = record_of_chunk c.args.bytes.now c.in_ok-record.record.now _ _ c.args.v _ l c.as_chunks.ensures.front (c.from.ensures ∙ ap (λ r. record_in r 0) (at.1 _)) in
    ap Some read ∙ sym (cond-true _ _ _ (lt-ltb _ _ l))
