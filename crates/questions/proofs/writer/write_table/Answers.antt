-- The table at the front of the codes passes the checks that the codes pass, and is written as they are.
use Rattle.std.proofs.Common.{◌^◌, ◌≤◌, ◌++◌, length, take, drop, sym, refl, ap, ◌∙◌, arith}
use native.Mathlib.Nat.{sub-zero}
use Rattle.std.proofs.lemmas.Result.{err_from_is_err_and}
use Rattle.tables.proofs.Sizes.{sized-some}
use Rattle.questions.proofs.Fronts.{unwritable_front, writable_front, written_front}
use Rattle.questions.proofs.writer.write_table.Goals as goal

pub returns-in_err-layout : goal.returns-in_err-layout
returns-in_err-layout c =
    let p = err_from_is_err_and c.from_residual-in_err-layout.result c.from_residual-in_err-layout.ensures.1 in
    let n = c.args.variables in
    let codes = c.args.codes.now in
    let points = (sized-some n c.in_ok-points.points (sym c.in_ok-points.ensures.ok_part ∙ c.points.ensures)).1 in
    let got = rw c.in_ok-table.ensures.ok_part at c.get.ensures.lookup.0 in
    let table = got.2 ∙ ap (λ k. take k codes) (sub-zero c.in_ok-points.points ∙ points) in
    rw (p.1, p.2) (unwritable_front n codes c.in_ok-table.table.now (length c.args.out.now) (omega (arith, got.1)) table _ c.in_err-layout.ensures, refl)

pub returns : goal.returns
returns c =
    let n = c.args.variables in
    let codes = c.args.codes.now in
    let layout = c.in_ok-layout.layout in
    let points = (sized-some n c.in_ok-points.points (sym c.in_ok-points.ensures.ok_part ∙ c.points.ensures)).1 in
    let got = rw c.in_ok-table.ensures.ok_part at c.get.ensures.lookup.0 in
    let table = got.2 ∙ ap (λ k. take k codes) (sub-zero c.in_ok-points.points ∙ points) in
    let long : 2 ^ n ≤ length codes = omega (arith, got.1) in
    let ok = c.in_ok-layout.ensures in (
      writable_front n codes c.in_ok-table.table.now (length c.args.out.now) long table layout ok,
      ap (λ entry. entry ++ drop layout.length c.args.out.now) (c.put_entry.ensures ∙ written_front n codes c.in_ok-table.table.now (length c.args.out.now) long table layout ok.1),
    )
