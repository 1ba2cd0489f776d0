-- Reading: the bytes that spell a datum, and the text that is gaps and spellings in turn.
use Rattle.std.specs.Prelude.{◌≡◌, ℕ, List, [], ◌++◌}
use Rattle.base.specs.declared.place.Place.{Place}
use Rattle.base.specs.Data.{Item}
use Rattle.front_reader.specs.Characters.{place_behind}
use Rattle.front_reader.specs.Gaps.{Gap}
use Rattle.front_reader.specs.Trees.{Tree, Trees, spelled, spelled_all, Stands, StandsAll}
use Rattle.front_reader.specs.Meanings.{number_in, Means, MeansAll}

-- the bytes b, where the text goes on with `after`, spell the datum d at place p; symbols are numbered by
-- the table
pub record Reads (names : List (List ℕ)) (b after : List ℕ) (p : Place) (d : Item) : Type 0 where
  pub tree : Tree
  pub spells : b ++ after ≡ spelled tree after
  pub stands : Stands 0 tree after
  pub means : Means (number_in names) p tree d

-- the next datum of a text at place p: a gap, and the bytes of its spelling; `after` is left
pub record ReadsNext (names : List (List ℕ)) (text : List ℕ) (p : Place) (d : Item) (after : List ℕ) : Type 0 where
  pub gap : List ℕ
  pub bytes : List ℕ
  pub front : text ≡ gap ++ (bytes ++ after)
  pub is_gap : Gap gap (bytes ++ after)
  pub reads : Reads names bytes after (place_behind p gap) d

-- the whole text at place p is gaps and spellings in turn, and these are the data
pub record Text (names : List (List ℕ)) (text : List ℕ) (p : Place) (ds : List Item) : Type 0 where
  pub trees : Trees
  pub gap : List ℕ
  pub spells : text ≡ spelled_all trees gap
  pub stands : StandsAll 0 trees gap
  pub is_gap : Gap gap []
  pub means : MeansAll (number_in names) p trees ds
