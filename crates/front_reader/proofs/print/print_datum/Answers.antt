-- The spelling of a datum is read again.
use Rattle.std.proofs.Common.{◌≡◌, ◌++◌, ap, ◌∙◌}
use Rattle.front_reader.specs.Printing.{spelling}
use Rattle.front_reader.proofs.PrintReads.{read_again}
use Rattle.front_reader.proofs.print.print_datum.Goals as goal

pub returns-clause-read_again : goal.returns-clause-read_again
returns-clause-read_again c = λ p.
    let is : c.append_datum.new.out ≡ spelling c.args.names.now c.args.datum.now =
    c.in_ok-append_datum.ensures ∙ ap (λ w. w ++ spelling c.args.names.now c.args.datum.now) c.new-out.ensures in
    rw is (read_again c.args.names.now c.args.datum.now p c.len.ensures.table c.requires.formed c.requires.named c.requires.deep)
