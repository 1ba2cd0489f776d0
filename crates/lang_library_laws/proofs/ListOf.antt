-- `list`, whose arguments are gathered.
use Rattle.std.proofs.Common.{[], refl, Some, length, arith}
use Rattle.std.proofs.lemmas.Bool.Decides.{nat_tests}
use Rattle.lang_meaning.specs.Form.{local, sequence}
use Rattle.lang_library_laws.specs.Lists.{IsListFrom}
use Rattle.lang_library_laws.specs.ListBodies.{one}
use Rattle.lang_library_laws.specs.Laws.{LawOfList}
use Rattle.lang_library_laws.proofs.Frames.{nothing_added, at_frame}
use Rattle.lang_library_laws.proofs.Evaluates.{comes_local, comes_sequence, then_nothing, first_then}
use Rattle.lang_library_laws.proofs.Applies.{applies_to}
use Rattle.lang_library_laws.proofs.ListsKept.{here}

pub law_of_list : LawOfList
law_of_list names program name v number there limit k wrong around z items =
    applies_to names program limit z z.store 0 number name [] (Some v) (sequence (one (local v))) items
    (λ w store. IsListFrom (length z.store) store w items) (nothing_added z.store) there (λ u. refl) (grind (arith, nat_tests))
    (λ levels ws now g. at_frame g.1 (comes_sequence (first_then (comes_local v 0 (here v 0 []) (then_nothing g.2)))))
    k wrong around
