use Rattle.transactions.proofs.LawsWriting.{some_octets}
use Rattle.transactions.proofs.writing.write_fitting.Goals as goal

pub returns-clause-some : goal.returns-clause-some
returns-clause-some c = some_octets c.args.body.now c.args.out.now _ _ c.write_frame.ensures
