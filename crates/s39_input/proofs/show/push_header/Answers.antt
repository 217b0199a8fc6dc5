use Rattle.std.proofs.Common.{◌≡◌, Bool, true, false, refl}
use Rattle.s39_words.specs.Share.{flag_bit}
use mir.Val.{bool_byte}
use Rattle.s39_input.proofs.show.push_header.Goals as goal

bool_byte-flag : (flag : Bool) → bool_byte flag ≡ flag_bit flag
bool_byte-flag true = refl
bool_byte-flag false = refl

pub returns-clause-text : goal.returns-clause-text
returns-clause-text c =
    rw (
      c.push_field-8.ensures.text,
      c.push_field-7.ensures.text,
      c.push_field-6.ensures.text,
      c.push_field-5.ensures.text,
      c.push_field-4.ensures.text,
      c.push_field-3.ensures.text,
      c.push_field-2.ensures.text,
      c.push_field.ensures.text,
      c.requires,
    )
    (rw (c.from-7.ensures, c.from-6.ensures, c.from-5.ensures, c.from-4.ensures, c.from-3.ensures, c.from-2.ensures, c.from.ensures)
    (rw (
      c.id.ensures,
      c.extendable.ensures,
      c.exponent.ensures,
      c.group_index.ensures,
      c.group_threshold.ensures,
      c.group_count.ensures,
      c.member_index.ensures,
      c.member_threshold.ensures,
      bool_byte-flag c.args.share.now.extendable,
    ) refl))
