-- A reference that a value may hold.
use Rattle.quoted.proofs.CodedLaws.{ref_at}
use Rattle.quoted.proofs.coded.reference_at.Goals as goal

pub returns : goal.returns
returns c = ref_at c.args.page.now c.args.e c.in_ok-next.next c.refers-byte.result c.requires.0 c.requires.2 c.in_ok-next.ensures c.refers-byte.ensures c.if-byte-eq0.false
