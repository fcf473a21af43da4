use mathlib.Core.Path.{◌≡◌, refl, sym, ◌∙◌}
use native.Mathlib.Omega.{arith}
use lib.ListN.{length}
use Rattle.reading.specs.Reads.{small_by_index}
use Rattle.names.specs.Entries.{enums_of}
use Rattle.readers.specs.Whole.{short_file_lem}
use Rattle.readers.specs.Meaning.{lists_take}
use Rattle.load.specs.Loads.{file_total}
use Rattle.load.specs.Laws.{not_lacking, kept-prelude, lists_inside, lists_refused, behind_lists_lem, lists_padded}
use borrow.Author.Rules.{rules}
use Rattle.load.proofs.listed.Goals as goal

pub objects-requires : goal.objects-requires
objects-requires c =
    let a = c.args in
    let file = a.file.now in
    let es = enums_of a.enums.now in
    let small = small_by_index file (λ i h. omega (arith, c.type_inv.file i)) in
    let l = (rw c.in-Ok.is at (lists_take a.enums.now file small 10 _ _ _ refl refl c.read_lists.ensures)).1 in
    let q = sym (short_file_lem es file 10 c.requires.0.short) ∙ l.answer in (
      record { long = c.requires.0.long; few = omega (arith, c.well_formed); rows = omega arith; place = lists_inside es file small 10 (omega (arith, c.requires.0.inside, c.requires.0.ten)) q; short = omega (arith, c.requires.0.short) },
      record { readers = l.readers; listed = l.listed; prelude = kept-prelude _ (l.kept ∙ c.put_prelude.ensures) },
      l.shared_few,
    )

pub returns-in-NoRoom : goal.returns-in-NoRoom
returns-in-NoRoom c =
    λ platform flags.
    let a = c.args in
    let small = small_by_index a.file.now (λ i h. omega (arith, c.type_inv.file i)) in
    let l = rw (c.in-Err.is, c.in-NoRoom.is) at (lists_take a.enums.now a.file.now small 10 _ _ _ refl refl c.read_lists.ensures) in
    let m : length c.put_prelude.new.codes ≡ length a.codes.now = search rules in
    absurd (not_lacking a.file.now 10 _ _ m (rw c.requires.0.ten at c.requires.2) l)

pub returns-in-Refused : goal.returns-in-Refused
returns-in-Refused c =
    λ platform flags.
    let a = c.args in
    let file = a.file.now in
    let es = enums_of a.enums.now in
    let small = small_by_index file (λ i h. omega (arith, c.type_inv.file i)) in
    let l = rw (c.in-Err.is, c.in-Refused.is) at (lists_take a.enums.now file small 10 _ _ _ refl refl c.read_lists.ensures) in
    rw c.requires.0.ten (rw (lists_refused es file a.grid.room platform flags 10 (sym (short_file_lem es file 10 c.requires.0.short) ∙ l.1)) refl)

pub returns-in-Ok : goal.returns-in-Ok
returns-in-Ok c =
    λ platform flags.
    let a = c.args in
    let file = a.file.now in
    let es = enums_of a.enums.now in
    let small = small_by_index file (λ i h. omega (arith, c.type_inv.file i)) in
    let v = rw c.in-Ok.is at (lists_take a.enums.now file small 10 _ _ _ refl refl c.read_lists.ensures) in
    let l = v.1 in
    rw (c.requires.0.ten, behind_lists_lem es file a.grid.room platform flags 10 (sym (short_file_lem es file 10 c.requires.0.short) ∙ l.answer))
    (c.objects.ensures (file_total file) platform flags l.names l.readers l.listed (lists_padded file _ _ l.readers l.listed.counts v.2))
