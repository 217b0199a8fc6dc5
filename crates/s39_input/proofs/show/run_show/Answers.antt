use Rattle.std.proofs.Common.{◌≡◌, refl, subst, sym}
use Rattle.s39_input.specs.Lines.{share_in}
use Rattle.s39_input.specs.Show.{show_output, IsShowOutput, line_text}
use Rattle.s39_input.specs.Runs.{Runs}
use Rattle.s39_input.proofs.Runs.Answered.{run_answered}
use Rattle.s39_input.proofs.show.run_show.Goals as goal

pub returns : goal.returns
unfolding show_output
returns g c =
    subst (Runs g.R.Read.remaining g.W.Write.contents IsShowOutput c.args.input.now c.take_lines.new.input c.args.output.now c.take_lines.new.taker)
    (sym c.answered.ensures)
    (run_answered g.W.Write.contents (λ line said. share_in line ≡ said) line_text (λ output. output) (λ old said new. Unit {0}) (λ s. tt)
    (λ s t u said more p q. tt) share_in (λ line said is. is) (λ said. tt) (λ s. tt) c.args.output.now (λ said new follows. refl)
    c.take_lines.new.taker c.take_lines.result c.take_lines.ensures.runs c.take_lines.ensures.failures)
