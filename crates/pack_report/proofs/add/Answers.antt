use Rattle.std.specs.Prelude.{◌≡◌, length}
use Rattle.std.proofs.Common.{rules, ◌∙◌}
use Rattle.std.proofs.lemmas.Result.{err_from_is_err_and}
use Rattle.pack_report.specs.Add.{room_enough, no_room, pack_refused, all_cleared, room_below, room_above, clear_so, listed}
use Rattle.pack_report.proofs.add.Goals as goal

pub returns-then-room-lt65536 : goal.returns-then-room-lt65536
returns-then-room-lt65536 c =
    let a = c.args in
    let s = no_room a.enums.now a.pack.now a.report.now (length a.words.now) (length a.table.now) (room_below a.words.now (rw c.clear.ensures at c.room.ensures) c.if-room-lt65536.true) in
    record { value = rw c.at.ensures s.0; report_after = s.1; table_after = c.clear-then-room-lt65536.ensures ∙ all_cleared a.table.now ∙ s.2; words_after = c.clear.ensures ∙ all_cleared a.words.now }

pub add_read-requires : goal.add_read-requires
add_read-requires c =
    let a = c.args in
    (listed a.pack.now a.table.now _ (search rules) c.in_ok-files.ensures.value c.in_ok-files.ensures.table_after, rw c.clear.ensures (clear_so a.words.now (rw c.clear.ensures at c.room.ensures) c.if-room-lt65536.false))

pub returns-in_err-files : goal.returns-in_err-files
returns-in_err-files c =
    let a = c.args in
    let p = err_from_is_err_and c.from_residual.result c.from_residual.ensures.1 in
    let s = pack_refused a.enums.now a.pack.now a.report.now (length a.words.now) (length a.table.now) (room_above a.words.now (rw c.clear.ensures at c.room.ensures) c.if-room-lt65536.false) c.in_err-files.ensures.value in
    record { value = rw (p.1, p.2) s.0; report_after = s.1; table_after = c.in_err-files.ensures.table_after ∙ s.2; words_after = c.clear.ensures ∙ all_cleared a.words.now }

pub returns : goal.returns
returns c =
    let a = c.args in
    let n : length c.read.new.table ≡ length a.table.now = search rules in
    let q = room_enough a.enums.now a.pack.now a.report.now (length a.words.now) (length a.table.now) (room_above a.words.now (rw c.clear.ensures at c.room.ensures) c.if-room-lt65536.false) in
    record { value = rw (n, q) at c.add_read.ensures.value; report_after = rw (n, q) at c.add_read.ensures.report_after; table_after = rw (n, q) at c.add_read.ensures.table_after; words_after = c.add_read.ensures.words_unchanged ∙ c.clear.ensures ∙ all_cleared a.words.now }
