-- Data that calls of macros expand to are in form.
use Rattle.std.proofs.Common.{ℕ, List, length}
use Rattle.base.specs.Data.{Item, place_of}
use Rattle.base.specs.WellFormedData.{WellFormed, good_stays}
use Rattle.lang_taken.specs.Laws.{LawOfForm}
use Rattle.front_profile.specs.declared.tables.Tables.{Tables}
use Rattle.front_profile.specs.Expansions.{Expands}

pub expansions_good : LawOfForm → (names : List (List ℕ)) (s : Tables) (m : ℕ) (d : Item) (expansion : ℕ) (e : Item) → Expands names s m d expansion e
    → WellFormed (length names) e
expansions_good form names s m d expansion e h =
    good_stays h.expander.table names e h.expander.begins (form h.expander.table _ (place_of d) expansion _ _ h.value e h.datum.rest h.datum.taken).0
