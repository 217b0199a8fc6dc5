use Rattle.std.proofs.Common.{◌≡◌, ◌≢◌, ◌↔◌, Err, true, false, subst, sym, refl, ◌∙◌, rules}
use Rattle.std.specs.Prelude.{IsSome, IfSome}
use Rattle.s39_words.specs.declared.word_error.WordError.TheVariants.{BadPadding}
use Rattle.s39_words.specs.Share.{IsShare}
use Rattle.s39_words.specs.Reading.{padding_of, fields_at, reading}
use Rattle.s39_words.proofs.OneReading.{read_bad_checksum, read_bad_padding, read_fields}
use Rattle.s39_words.proofs.WrongWords.{found_mistyped}
use Rattle.s39_words.proofs.spelling.parse.Goals as goal

pub returns-in_err-indices : goal.returns-in_err-indices
returns-in_err-indices c =
    let read : reading c.args.line.now ≡ c.from_residual.result = search rules in
    record { reading = read; mistyped = found_mistyped read }

pub returns-then-not-is_valid_checksum-clause-reading : goal.returns-then-not-is_valid_checksum-clause-reading
returns-then-not-is_valid_checksum-clause-reading c =
    let found = c.in_ok-indices.ensures in
    let test = sym c.is_valid_checksum.ensures ∙ c.if-not-is_valid_checksum.true in
    read_bad_checksum c.args.line.now _ found.found found.count (rw (c.has_flag-extendable.ensures, c.as_slice-words.ensures.value) at test)

pub returns-in_default : goal.returns-in_default
returns-in_default c =
    let found = c.in_ok-indices.ensures in
    let test = sym c.is_valid_checksum.ensures ∙ c.if-not-is_valid_checksum.false in
    let other : padding_of c.as_slice-words.result.now ≢ 0 = λ none. (let t : false ≡ true = c.in_default.ensures.padding.1 none in cc) in
    let read : reading c.args.line.now ≡ Err BadPadding =
    read_bad_padding c.args.line.now _ found.found found.count (rw (c.has_flag-extendable.ensures, c.as_slice-words.ensures.value) at test)
    (rw c.as_slice-words.ensures.value at other) in
    record { reading = read; mistyped = found_mistyped read }

pub returns : goal.returns
returns c =
    let found = c.in_ok-indices.ensures in
    let test = sym c.is_valid_checksum.ensures ∙ c.if-not-is_valid_checksum.false in
    let fields = c.in-Some.ensures.fields in
    let is_share : IsSome c.new.result ↔ IsShare (fields_at c.as_slice-words.result.now) =
    subst (λ f. IsSome c.new.result ↔ IsShare f) fields c.new.ensures.in_range in
    let same : IfSome c.new.result (λ share. share ≡ fields_at c.as_slice-words.result.now) =
    subst (λ f. IfSome c.new.result (λ share. share ≡ f)) fields c.new.ensures.same in
    let value = c.as_slice-words.ensures.value in
    let read : reading c.args.line.now ≡ c.ok_or.result =
    read_fields c.args.line.now _ found.found found.count (rw (c.has_flag-extendable.ensures, value) at test)
    (rw value at (c.in-Some.ensures.padding.0 refl)) c.new.result (rw value at is_share) (rw value at same) ∙ sym c.ok_or.ensures.value in
    record { reading = read; mistyped = found_mistyped read }
