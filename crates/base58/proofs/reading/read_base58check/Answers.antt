use Rattle.std.proofs.Common.{◌≤◌, length, arith}
use Rattle.base58.specs.Reading.{first_bad_letter}
use Rattle.base58.proofs.Texts.{too_long}
use Rattle.base58.proofs.reading.read_base58check.Goals as goal

pub returns-then-text-gt-MAX_TEXT : goal.returns-then-text-gt-MAX_TEXT
returns-then-text-gt-MAX_TEXT c =
    let text = c.args.text.now in
    let letters : length text ≤ first_bad_letter text = omega arith in
    too_long text letters (omega arith)
