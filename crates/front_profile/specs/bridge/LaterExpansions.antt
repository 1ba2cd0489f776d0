-- An expansion of a call, and a refusal, stay under every later table of names.
use Rattle.std.proofs.Common.{ℕ, List}
use Rattle.base.specs.declared.reason.Reason.{Reason}
use Rattle.base.specs.Data.{Item}
use Rattle.base.specs.Names.{Extends, Extends-then}
use Rattle.front_profile.specs.declared.tables.Tables.{Tables}
use Rattle.front_profile.specs.Expansions.{HasExpander, Expands, ExpansionStops, is_unhandled, has_printed, is_no_datum, too_many_nodes, large_image, full, long, endless}

-- the program of the call is under the same table
expander_later : (old new : List (List ℕ)) (s : Tables) (m : ℕ) (d : Item) → Extends old new → HasExpander old s m d → HasExpander new s m d
expander_later old new s m d x h = record { table = h.table; begins = Extends-then h.table old new h.begins x; named = h.named; small = h.small }

pub expands_later : (old new : List (List ℕ)) (s : Tables) (m : ℕ) (d : Item) (expansion : ℕ) (e : Item) → Extends old new → Expands old s m d expansion e
    → Expands new s m d expansion e
unfolding expander_later
expands_later old new s m d expansion e x h = record {
  expander = expander_later old new s m d x h.expander;
  levels = h.levels;
  value = h.value;
  gives = h.gives;
  datum = h.datum;
}

pub stops_later : (old new : List (List ℕ)) (s : Tables) (m : ℕ) (d : Item) (expansion : ℕ) (r : Reason) → Extends old new → ExpansionStops old s m d expansion r
    → ExpansionStops new s m d expansion r
unfolding expander_later
stops_later old new s m d expansion r x (is_unhandled h levels c p e) = is_unhandled (expander_later old new s m d x h) levels c p e
stops_later old new s m d expansion r x (has_printed h levels v e k) = has_printed (expander_later old new s m d x h) levels v e k
stops_later old new s m d expansion r x (is_no_datum h levels v q g f) = is_no_datum (expander_later old new s m d x h) levels v q g f
stops_later old new s m d expansion r x (too_many_nodes l) = too_many_nodes l
stops_later old new s m d expansion r x (large_image h left k l) = large_image (expander_later old new s m d x h) left k l
stops_later old new s m d expansion r x (full h left room levels asked over k l e) = full (expander_later old new s m d x h) left room levels asked over k l e
stops_later old new s m d expansion r x (long h levels i l) = long (expander_later old new s m d x h) levels i l
stops_later old new s m d expansion r x (endless h e) = endless (expander_later old new s m d x h) e
