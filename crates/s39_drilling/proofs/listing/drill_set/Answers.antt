use Rattle.std.proofs.Common.{refl, Ok, Err}
use Rattle.std.proofs.lemmas.Result.{err_from_is_err_and}
use Rattle.std.specs.Option.{option_copied}
use Rattle.s39_drilling.proofs.Drills.Filling.{fills_lists, end_lists}
use Rattle.s39_drilling.proofs.listing.drill_set.Goals as goal

pub returns-in_err-start : goal.returns-in_err-start
returns-in_err-start c =
    let p = err_from_is_err_and c.from_residual.result c.from_residual.ensures.1 in
    rw (p.1, p.2) (c.in_err-start.ensures.refused c.args.form c.args.passphrase.now c.args.limit, refl)

pub returns-in_ok-fill-in-Some : goal.returns-in_ok-fill-in-Some
returns-in_ok-fill-in-Some c =
    fills_lists c.listings_join.ensures.none c.args.form c.args.passphrase.now (option_copied c.args.after) c.args.set.now c.in_ok-start.field-0
    c.in_ok-start.ensures.starts c.args.limit c.args.text.now
    c.fill.new.text c.in-Some.start c.in-Some.is (Ok c.in_ok-fill-in-Some.field-0)
    (rw c.new-memo.ensures.passphrase at c.in_ok-fill-in-Some.ensures)

pub returns-in_err-fill-in-Some : goal.returns-in_err-fill-in-Some
returns-in_err-fill-in-Some c =
    let p = err_from_is_err_and c.from_residual-in_err-fill-in-Some.result c.from_residual-in_err-fill-in-Some.ensures.1 in
    rw (p.1, p.2) (fills_lists c.listings_join.ensures.none c.args.form c.args.passphrase.now (option_copied c.args.after) c.args.set.now
    c.in_ok-start.field-0 c.in_ok-start.ensures.starts c.args.limit c.args.text.now
    c.fill.new.text c.in-Some.start c.in-Some.is (Err c.in_err-fill-in-Some.field-0.0)
    (rw c.new-memo.ensures.passphrase at c.in_err-fill-in-Some.ensures))

pub returns-in_ok-put_end-in-None : goal.returns-in_ok-put_end-in-None
returns-in_ok-put_end-in-None c =
    end_lists c.listings_join.ensures.none c.args.form c.args.passphrase.now (option_copied c.args.after) c.args.set.now c.in_ok-start.field-0
    c.in_ok-start.ensures.starts c.args.limit c.args.text.now
    c.put_end.new.text c.in-None.is c.requires.some (Ok c.in_ok-put_end-in-None.field-0) c.in_ok-put_end-in-None.ensures.listed
    c.in_ok-put_end-in-None.ensures.short

pub returns-in_err-put_end-in-None : goal.returns-in_err-put_end-in-None
returns-in_err-put_end-in-None c =
    let p = err_from_is_err_and c.from_residual-in_err-put_end-in-None.result c.from_residual-in_err-put_end-in-None.ensures.1 in
    rw (p.1, p.2) (end_lists c.listings_join.ensures.none c.args.form c.args.passphrase.now (option_copied c.args.after) c.args.set.now
    c.in_ok-start.field-0 c.in_ok-start.ensures.starts c.args.limit c.args.text.now
    c.put_end.new.text c.in-None.is c.requires.some (Err c.in_err-put_end-in-None.field-0.0) c.in_err-put_end-in-None.ensures.listed
    c.in_err-put_end-in-None.ensures.short)
