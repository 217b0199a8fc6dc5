use Rattle.s39_words.proofs.packing.fields_of.Goals as goal

pub returns-clause-fields : goal.returns-clause-fields
returns-clause-fields c =
    rw (
      c.number_at.ensures.number,
      c.has_flag.ensures,
      c.number_at-2.ensures.number,
      c.number_at-3.ensures.number,
      c.number_at-4.ensures.number,
      c.number_at-5.ensures.number,
      c.number_at-6.ensures.number,
      c.number_at-7.ensures.number,
      c.in_ok-value_of.ensures.value,
    )
