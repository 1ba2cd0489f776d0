use Rattle.lang_library_laws.proofs.Member.{law_of_member}
use Rattle.lang_library_laws.proofs.laws.law_member.Goals as goal

pub returns : goal.returns
returns c = law_of_member
