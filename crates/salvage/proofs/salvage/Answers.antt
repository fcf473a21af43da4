use Rattle.std.specs.Prelude.{◌≡◌, length}
use Rattle.std.proofs.Common.{sym, ap, arith}
use Rattle.pack_salvage.specs.Scan.{kept_of}
use Rattle.pack_salvage.specs.Salvage.{pieces_of, new_pack, skipped_of}
use Rattle.salvage.specs.declared.Size.{Size}
use Rattle.salvage.proofs.Puts.{put-answer, too_short, no_output, no_list}
use Rattle.salvage.proofs.salvage.Goals as goal

pub returns-then-pack-lt4 : goal.returns-then-pack-lt4
returns-then-pack-lt4 c =
    let x = too_short c.args.pack.now c.args.out.now c.args.list.now c.if-pack-lt4.true in
    record { value = rw c.at.ensures x.answer; out_after = x.same_output; list_after = x.same_list }

pub returns-then-out-size : goal.returns-then-out-size
returns-then-out-size c =
    let b : c.measure-size.result.bytes ≡ length (new_pack c.args.pack.now) = ap (λ (s : Size). s.bytes) c.measure-size.ensures in
    let x = no_output c.args.pack.now c.args.out.now c.args.list.now c.if-pack-lt4.false (omega (arith, b, c.if-out-size.true)) in
    record { value = rw (c.at-then-out-size.ensures, b) x.answer; out_after = x.same_output; list_after = x.same_list }

pub returns-then-list-size : goal.returns-then-list-size
returns-then-list-size c =
    let args = c.args in
    let b : c.measure-size.result.bytes ≡ length (new_pack args.pack.now) = ap (λ (s : Size). s.bytes) c.measure-size.ensures in
    let s : c.measure-size.result.stretches ≡ length (skipped_of args.pack.now) = ap (λ (s : Size). s.stretches) c.measure-size.ensures in
    let x = no_list args.pack.now args.out.now args.list.now c.if-pack-lt4.false (omega (arith, b, c.if-out-size.false)) (omega (arith, s, c.if-list-size.true)) in
    record { value = rw (c.at-then-list-size.ensures, s) x.answer; out_after = x.same_output; list_after = x.same_list }

pub put_pieces-requires : goal.put_pieces-requires
put_pieces-requires c =
    let b : c.measure-size.result.bytes ≡ length (new_pack c.args.pack.now) = ap (λ (s : Size). s.bytes) c.measure-size.ensures in
    let s : c.measure-size.result.stretches ≡ length (skipped_of c.args.pack.now) = ap (λ (s : Size). s.stretches) c.measure-size.ensures in
    let r : c.measure-size.result.records ≡ length (kept_of (pieces_of c.args.pack.now)) = ap (λ (s : Size). s.records) c.measure-size.ensures in
    record { long = c.if-pack-lt4.false; count = r; room = omega (arith, b, c.if-out-size.false); listed = omega (arith, s, c.if-list-size.false) }

pub returns-clause-value : goal.returns-clause-value
returns-clause-value c =
    let args = c.args in
    let b : c.measure-size.result.bytes ≡ length (new_pack args.pack.now) = ap (λ (s : Size). s.bytes) c.measure-size.ensures in
    let s : c.measure-size.result.stretches ≡ length (skipped_of args.pack.now) = ap (λ (s : Size). s.stretches) c.measure-size.ensures in
    let r : c.measure-size.result.records ≡ length (kept_of (pieces_of args.pack.now)) = ap (λ (s : Size). s.records) c.measure-size.ensures in
    rw (b, s) (sym (put-answer args.pack.now c.measure-size.result.records args.out.now args.list.now
    (record { long = c.if-pack-lt4.false; count = r; room = omega (arith, b, c.if-out-size.false); listed = omega (arith, s, c.if-list-size.false) })))
