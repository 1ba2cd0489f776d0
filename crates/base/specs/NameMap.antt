-- What names stand for, as the code keeps it: entries, the innermost first, and a map.
use Rattle.std.specs.Prelude.{◌≡◌, ⊤, List, [], ◌∷◌}
use Rattle.std.specs.declared.cmp.Ordering.{Ordering}
use Rattle.std.specs.Map.{lookup}
use Rattle.std.specs.BTreeMap.{BTreeMap, get, is_at}
use Rattle.base.specs.declared.name_map.Entry.{Entry}

module _ {K X : Type 0} where
  -- what names stand for, the innermost first
  abbrev pub bound : List (Entry K X) → List (K × X)
  bound [] = []
  bound (e ∷ es) = (e.name, e.what) ∷ bound es

module _ {K X : Type 0} (cmp : K → K → Ordering) where
  -- each entry has what its name stood for before
  abbrev pub HaveBefore : List (Entry K X) → Type 0
  HaveBefore [] = ⊤
  HaveBefore (e ∷ es) = e.before ≡ lookup (is_at (cmp e.name)) (bound es) × HaveBefore es

  -- each name is found in the map
  pub record AreFound (es : List (Entry K X)) (map : BTreeMap K X) : Type 0 where
    pub before : HaveBefore es
    pub found : (n : K) → get cmp map n ≡ lookup (is_at (cmp n)) (bound es)
