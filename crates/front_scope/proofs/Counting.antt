-- The nodes of tables that have grown.
use Rattle.std.proofs.Common.{◌≡◌, ◌∙◌, ℕ, ◌+◌, ◌≤◌, ◌<◌, min, List, length, drop, ap, sym, arith}
use Rattle.std.specs.List.{sum_by}
use Rattle.std.proofs.lemmas.List.Sums.{sum_by-take-drop}
use Rattle.std.proofs.lemmas.List.{length-map}
use Rattle.lang_meaning.specs.Counts.{all_nodes}
use Rattle.lang_meaning.specs.ProgramCounts.{row_nodes, procedure_nodes, class_nodes}
use Rattle.front_profile.specs.declared.tables.Tables.{Tables}
use Rattle.front_profile.specs.Marks.{StandsFirst, TablesGrow}
use Rattle.front_profile.specs.declared.mark.Mark.{Mark}
use Rattle.front_profile.specs.Cuts.{mark_of, nodes_behind}
use Rattle.front_scope.specs.Scopes.{nodes_of}
use Rattle.front_profile.specs.bridge.CutGenerics.{there_enough}

-- a list counts what a list in front of it counts, and what stands behind that
split : {X : Type 0} (f : X → ℕ) (xs ys : List X) → StandsFirst xs ys → sum_by f ys ≡ sum_by f xs + sum_by f (drop (length xs) ys)
split f xs ys h = sym (sum_by-take-drop f ys (length xs)) ∙ ap (λ zs. sum_by f zs + sum_by f (drop (length xs) ys)) h

pub grown_nodes : (s t : Tables) → TablesGrow s t → nodes_of t ≡ nodes_of s + nodes_behind (mark_of s) t
grown_nodes s t g =
    omega (
      arith,
      split class_nodes s.classes.rows t.classes.rows g.classes,
      there_enough s.generics t.generics g.generics,
      length-map s.generics (λ h. length h.methods),
      split row_nodes s.literals t.literals g.literals,
      split procedure_nodes s.procedures t.procedures g.procedures,
      split all_nodes s.main t.main g.main,
    )

-- what was counted, with what was added, tells whether the program is too large
pub counted_exactly : (s t : Tables) (mark : Mark) (n r : ℕ) → TablesGrow s t → mark ≡ mark_of s → n ≡ nodes_of s
    → r ≡ min (n + nodes_behind mark t) 18446744073709551615 → r ≤ 100000 → r ≡ nodes_of t
counted_exactly s t mark n r g m e h small =
    let behind : nodes_behind mark t ≡ nodes_behind (mark_of s) t = ap (λ k. nodes_behind k t) m in
    omega (arith, grown_nodes s t g, behind, e, h, small)

pub counted_too_many : (s t : Tables) (mark : Mark) (n r : ℕ) → TablesGrow s t → mark ≡ mark_of s → n ≡ nodes_of s
    → r ≡ min (n + nodes_behind mark t) 18446744073709551615 → 100000 < r → 100000 < nodes_of t
counted_too_many s t mark n r g m e h large =
    let behind : nodes_behind mark t ≡ nodes_behind (mark_of s) t = ap (λ k. nodes_behind k t) m in
    omega (arith, grown_nodes s t g, behind, e, h, large)
