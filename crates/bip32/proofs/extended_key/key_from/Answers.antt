use Rattle.std.proofs.Common.{◌≡◌, ◌≢◌, ◌+◌, ◌%◌, ◌<◌, drop, Some, sym, ap, ap₂, ◌∙◌, refl}
use Rattle.std.specs.Int.Digits.{number_from_digits}
use Rattle.curve_field.specs.Order.{order}
use Rattle.curve_points.proofs.Added.{yes, no}
use Rattle.bip32.specs.Derivation.{left_number, sum_with}
use Rattle.bip32.proofs.Sums.{too_large, no_sum, summed}
use Rattle.bip32.proofs.extended_key.key_from.Goals as goal

pub returns-in-None : goal.returns-in-None
returns-in-None c =
    let front : number_from_digits 256 c.copy_from_slice.new.self ≡ left_number c.args.mac.now = cc in
    sym (too_large c.args.other c.args.mac.now (rw (sym front) c.in-None.ensures))

pub returns-then-is_zero : goal.returns-then-is_zero
returns-then-is_zero c =
    let mac = c.args.mac.now in
    let other = c.args.other in
    let front : number_from_digits 256 c.copy_from_slice.new.self ≡ left_number mac = cc in
    let tweak = c.in-Some.ensures.0 ∙ front in
    let low : left_number mac < order = rw (sym tweak) c.in-Some.ensures.1 in
    let zero = yes c.add-key.result 0 c.is_zero.result refl c.is_zero.ensures c.if-is_zero.true in
    let sum : sum_with other mac ≡ 0 = ap (λ n. (n + other) % order) (sym tweak) ∙ sym c.add-key.ensures ∙ zero in
    sym (no_sum other mac low sum)

pub returns : goal.returns
returns c =
    let mac = c.args.mac.now in
    let other = c.args.other in
    let front : number_from_digits 256 c.copy_from_slice.new.self ≡ left_number mac = cc in
    let back : c.copy_from_slice-2.new.self ≡ drop 32 mac = cc in
    let tweak = c.in-Some.ensures.0 ∙ front in
    let low : left_number mac < order = rw (sym tweak) c.in-Some.ensures.1 in
    let sum : c.add-key.result ≡ sum_with other mac = c.add-key.ensures ∙ ap (λ n. (n + other) % order) tweak in
    let some : sum_with other mac ≢ 0 =
    λ z. no c.add-key.result 0 c.is_zero.result refl c.is_zero.ensures c.if-is_zero.false (sum ∙ z) in
    ap₂ (λ k c. Some (record { key = k; chain_code = c })) sum back ∙ sym (summed other mac low some)
