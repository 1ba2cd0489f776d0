-- What is printed for a datum is read again.
use Rattle.std.specs.Prelude.{◌≡◌, ℕ, ◌≤◌, List, [], ◌∷◌, refl}
use Rattle.std.proofs.Common.{arith, sym, ◌∙◌, append-nil}
use Rattle.base.specs.declared.place.Place.{Place}
use Rattle.base.specs.Data.{Item}
use Rattle.base.specs.DataMeasures.{Formed, depth_of}
use Rattle.base.specs.Names.{IsTable}
use Rattle.front_reader.specs.Gaps.{no_gap}
use Rattle.front_reader.specs.Trees.{no_tree, then_tree, spelled, spelled_all, behind_all, Stands, StandsAll}
use Rattle.front_reader.specs.Meanings.{number_in, Means, MeansAll}
use Rattle.front_reader.specs.Printing.{spelling, IsSpelled, ReadAgain}
use Rattle.front_reader.proofs.PrintTrees.{tree_of, tree_spelled, tree_stands}
use Rattle.front_reader.proofs.PrintMeans.{Meant, tree_means}

one_tree : (names : List (List ℕ)) (d : Item) → spelling names d ≡ spelled_all (then_tree no_tree [] (tree_of names d)) []
unfolding spelled_all
one_tree names d = sym (append-nil (spelling names d)) ∙ sym (tree_spelled names d [])

one_stands : (names : List (List ℕ)) (d : Item) → Stands 0 (tree_of names d) [] → StandsAll 0 (then_tree no_tree [] (tree_of names d)) []
unfolding StandsAll
one_stands names d h = (tt, no_gap (spelled (tree_of names d) []), h)

one_means : (names : List (List ℕ)) (p : Place) (d e : Item) → Means (number_in names) p (tree_of names d) e
    → MeansAll (number_in names) p (then_tree no_tree [] (tree_of names d)) (e ∷ [])
unfolding MeansAll behind_all
one_means names p d e h = ([], (e, (refl, h, refl)))

pub read_again : (names : List (List ℕ)) (d : Item) (p : Place) → IsTable names → Formed d → IsSpelled names d → depth_of d ≤ 256
    → ReadAgain names (spelling names d) p d
read_again names d p table formed spelled deep =
    let m : Meant names p (tree_of names d) d = tree_means names table p d formed spelled in
    record {
      datum = m.datum;
      same = m.same;
      reads = record {
        trees = then_tree no_tree [] (tree_of names d);
        gap = [];
        spells = one_tree names d;
        stands = one_stands names d (tree_stands names 0 d [] formed spelled (omega arith) refl);
        is_gap = no_gap [];
        means = one_means names p d m.datum m.means;
      };
    }
