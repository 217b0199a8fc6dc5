use Rattle.s39_input.proofs.Runs.PrintedLines.{printed_lines}
use Rattle.s39_creating.proofs.length_laws.each_mnemonic_is_a_line.Goals as goal

pub returns : goal.returns
returns c = printed_lines c.printed_forms.ensures.letters
