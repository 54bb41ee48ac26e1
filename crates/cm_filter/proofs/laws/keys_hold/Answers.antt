use Rattle.cm_filter.proofs.MemberLemmas as members
use Rattle.cm_filter.proofs.laws.keys_hold.Goals as goal

pub returns : goal.returns
returns c = members.keys_hold c.requires.solve
