-- What holds of the place of a text, and with a place of that behind any byte, holds of all places of data that are read, and of stops; as that
-- lines and columns begin at 1, or that all stand at 0:0.
use Rattle.std.specs.Prelude.{◌≡◌, ℕ, ◌+◌, ◌==◌, Bool, true, false, List, [], ◌∷◌, ◌++◌, Option, Some, None, if◌then◌else◌, codes}
use Rattle.std.specs.Str.{bytes_eq}
use Rattle.std.proofs.Common.{refl, arith, ap, sym, subst, ◌∙◌}
use Rattle.base.specs.declared.place.Place.{Place}
use Rattle.base.specs.declared.reason.Reason.{Reason}
use Rattle.base.specs.declared.datum.Symbol.TheVariants.{Named}
use Rattle.base.specs.Data.{Item, item, Content, integer, character, symbol, string, vector, nil, list, Items, items_of}
use Rattle.base.specs.AllOf.{AllOf, all_both}
use Rattle.front_reader.specs.Readers.{first_place}
use Rattle.base.specs.declared.origin.Origin.TheVariants.{Prelude}
use Rattle.front_reader.specs.Characters.{place_after, place_behind}
use Rattle.front_reader.specs.Atoms.{Atom, an_integer, a_character, a_symbol, a_string}
use Rattle.front_reader.specs.Trees.{Tree, atom, proper, improper, row, prefixed, Trees, no_tree, then_tree, prefix_bytes, behind, behind_all}
use Rattle.front_reader.specs.Meanings.{named, atom_content, list_content, in_front, joined, prefix_item, Means, MeansAll}
use Rattle.front_reader.specs.Reads.{ReadsNext}
use Rattle.front_reader.specs.Fronts.{Level, in_list, at_dot, at_tail, in_vector, at_prefix, opening_place, dot_after, level_behind, levels_behind, front_behind}
use Rattle.front_reader.specs.Stops.{EndsAtDot, ends_at_dot, EndsAtTail, ends_at_tail, InnermostAt, innermost_at, Row, bad_byte, bad_byte_in_bars, bad_byte_escaped, unclosed_list, unclosed_string, unclosed_string_escaped, unclosed_bar, unclosed_bar_escaped, unclosed_comment, stray_close, bad_dot, dot_closed, dot_second, dot_opening, bad_sharp, float_literal, integer_too_wide, based_too_wide, nest_too_deep, token_too_long, bar_too_long, Stops}
use Rattle.front_laws.specs.Places.{InText}
use Rattle.front_laws.proofs.AllPlaces.{AllPlaces, AllPlacesInside, AllPlacesAmong}

-- ---- places of a text, and of a prelude

by_byte : (b c : Bool) (p : Place) → InText p →
    InText (if b then p else if c then record { line = p.line + 1; column = 1 } else record { line = p.line; column = p.column + 1 })
by_byte true c p h = h
by_byte false true p h = record { line = omega (arith, h.line); column = omega arith }
by_byte false false p h = record { line = h.line; column = omega (arith, h.column) }

pub after_in : (p : Place) (b : ℕ) → InText p → InText (place_after p b)
unfolding place_after
after_in p b h = by_byte (p.line == 0) (b == 10) p h

-- the place of all that a prelude has
abbrev pub IsOfPrelude : Place → Type 0
IsOfPrelude p = p ≡ first_place Prelude

no_line : (b : ℕ) → place_after (first_place Prelude) b ≡ first_place Prelude
unfolding place_after
no_line b = refl

pub after_prelude : (p : Place) (b : ℕ) → IsOfPrelude p → IsOfPrelude (place_after p b)
after_prelude p b h = ap (λ q. place_after q b) h ∙ no_line b

module _ (P : Place → Type 0) (onward : (p : Place) (b : ℕ) → P p → P (place_after p b)) where
  -- ---- behind bytes

  pub bytes_in : (p : Place) (bs : List ℕ) → P p → P (place_behind p bs)
  bytes_in p [] h = h
  bytes_in p (b ∷ bs) h = bytes_in (place_after p b) bs (onward p b h)

  -- ---- behind trees

  mutual
    unfolding behind behind_all

    tree_in : (p : Place) (t : Tree) → P p → P (behind p t)
    tree_in p (atom b a) h = bytes_in p b h
    tree_in p (proper ts g) h = bytes_in _ (41 ∷ []) (bytes_in _ g (trees_in _ ts (bytes_in p (40 ∷ []) h)))
    tree_in p (improper ts g u t i) h =
        bytes_in _ (41 ∷ []) (bytes_in _ i (tree_in _ t (bytes_in _ u (bytes_in _ (46 ∷ []) (bytes_in _ g (trees_in _ ts (bytes_in p (40 ∷ []) h)))))))
    tree_in p (row ts g) h = bytes_in _ (41 ∷ []) (bytes_in _ g (trees_in _ ts (bytes_in p (35 ∷ 40 ∷ []) h)))
    tree_in p (prefixed x g t) h = tree_in _ t (bytes_in _ g (bytes_in p (prefix_bytes x) h))

    trees_in : (p : Place) (ts : Trees) → P p → P (behind_all p ts)
    trees_in p no_tree h = h
    trees_in p (then_tree ts g t) h = tree_in _ t (bytes_in _ g (trees_in p ts h))

  -- ---- data

  named_in : (n : Option ℕ) (c : Content) → named n ≡ Some c → AllPlacesInside P c
  unfolding AllPlaces
  named_in None c e = absurd (cc)
  named_in (Some n) c e =
      let same : symbol (Named (record { 0 = n })) ≡ c = cc in subst (AllPlacesInside P) same tt

  symbol_in : (b : Bool) (n : Option ℕ) (c : Content) → (if b then Some nil else named n) ≡ Some c → AllPlacesInside P c
  unfolding AllPlaces
  symbol_in true n c e = let same : nil ≡ c = cc in subst (AllPlacesInside P) same tt
  symbol_in false n c e = named_in n c e

  atom_in : (number : List ℕ → Option ℕ) (a : Atom) (c : Content) → atom_content number a ≡ Some c → AllPlacesInside P c
  unfolding AllPlaces
  atom_in number (an_integer n) c e = let same : integer n ≡ c = cc in subst (AllPlacesInside P) same tt
  atom_in number (a_character n) c e = let same : character n ≡ c = cc in subst (AllPlacesInside P) same tt
  atom_in number (a_symbol name) c e = symbol_in (bytes_eq name (codes "nil")) (number name) c e
  atom_in number (a_string bytes) c e = let same : string bytes ≡ c = cc in subst (AllPlacesInside P) same tt

  items_in : (ds : List Item) → AllOf (AllPlaces P) ds → AllPlacesAmong P (items_of ds)
  unfolding AllPlaces
  items_in [] g = tt
  items_in (d ∷ ds) g = (g.0, items_in ds g.1)

  front_in : (ds : List Item) (es : Items) → AllOf (AllPlaces P) ds → AllPlacesAmong P es → AllPlacesAmong P (in_front ds es)
  unfolding AllPlaces
  front_in [] es g h = h
  front_in (d ∷ ds) es g h = (g.0, front_in ds es g.1 h)

  list_in : (p : Place) (ds : List Item) → P p → AllOf (AllPlaces P) ds → AllPlaces P (item p (list_content ds))
  unfolding AllPlaces
  list_in p [] q g = (q, tt)
  list_in p (d ∷ ds) q g = (q, (items_in (d ∷ ds) g, tt))

  vector_in : (p : Place) (ds : List Item) → P p → AllOf (AllPlaces P) ds → AllPlaces P (item p (vector (items_of ds)))
  unfolding AllPlaces
  vector_in p ds q g = (q, items_in ds g)

  joined_in : (p : Place) (ds : List Item) (e : Item) → P p → AllOf (AllPlaces P) ds → AllPlaces P e → AllPlaces P (item p (joined ds e))
  unfolding AllPlaces
  joined_in p ds (item o (integer z)) q g h = (q, (items_in ds g, h))
  joined_in p ds (item o (character z)) q g h = (q, (items_in ds g, h))
  joined_in p ds (item o (symbol z)) q g h = (q, (items_in ds g, h))
  joined_in p ds (item o (string z)) q g h = (q, (items_in ds g, h))
  joined_in p ds (item o (vector es)) q g h = (q, (items_in ds g, h))
  joined_in p ds (item o nil) q g h = (q, (items_in ds g, tt))
  joined_in p ds (item o (list es t)) q g h = (q, (front_in ds es g h.1.0, h.1.1))

  prefix_in : (p : Place) (n : ℕ) (d : Item) → P p → AllPlaces P d → AllPlaces P (prefix_item p n d)
  unfolding AllPlaces
  prefix_in p n d q g = (q, (((q, tt), (g, tt)), tt))

  mutual
    unfolding Means MeansAll AllPlaces

    means_in : (number : List ℕ → Option ℕ) (p : Place) (t : Tree) (d : Item) → P p → Means number p t d → AllPlaces P d
    means_in number p (atom b a) d h m = subst (AllPlaces P) (sym m.1.1) (h, atom_in number a m.0 m.1.0)
    means_in number p (proper ts g) d h m =
        subst (AllPlaces P) (sym m.1.1) (list_in p m.0 h (all_mean_in number _ ts m.0 (bytes_in p (40 ∷ []) h) m.1.0))
    means_in number p (improper ts g u t i) d h m =
        subst (AllPlaces P) (sym m.1.1.2)
        (joined_in p m.0 m.1.0 h (all_mean_in number _ ts m.0 (bytes_in p (40 ∷ []) h) m.1.1.0)
        (means_in number _ t m.1.0 (bytes_in _ u (bytes_in _ (46 ∷ []) (bytes_in _ g (trees_in _ ts (bytes_in p (40 ∷ []) h))))) m.1.1.1))
    means_in number p (row ts g) d h m =
        subst (AllPlaces P) (sym m.1.1) (vector_in p m.0 h (all_mean_in number _ ts m.0 (bytes_in p (35 ∷ 40 ∷ []) h) m.1.0))
    means_in number p (prefixed x g t) d h m =
        subst (AllPlaces P) (sym m.1.1.2)
        (prefix_in p m.0 m.1.0 h (means_in number _ t m.1.0 (bytes_in _ g (bytes_in p (prefix_bytes x) h)) m.1.1.1))

    all_mean_in : (number : List ℕ → Option ℕ) (p : Place) (ts : Trees) (ds : List Item) → P p → MeansAll number p ts ds → AllOf (AllPlaces P) ds
    all_mean_in number p no_tree ds h m = subst (AllOf (AllPlaces P)) (sym m) tt
    all_mean_in number p (then_tree ts g t) ds h m =
        subst (AllOf (AllPlaces P)) (sym m.1.1.2)
        (all_both (AllPlaces P) m.0 (m.1.0 ∷ []) (all_mean_in number p ts m.0 h m.1.1.0)
        (means_in number _ t m.1.0 (bytes_in _ g (trees_in p ts h)) m.1.1.1, tt))

  -- the next datum of a text
  pub next_in : (names : List (List ℕ)) (text : List ℕ) (p : Place) (d : Item) (after : List ℕ) → P p → ReadsNext names text p d after → AllPlaces P d
  next_in names text p d after h r = means_in _ (place_behind p r.gap) r.reads.tree d (bytes_in p r.gap h) r.reads.means

  -- ---- stops

  dot_in : (p : Place) (g : List ℕ) (ts : Trees) (u : List ℕ) → P p → P (dot_after p g ts u)
  dot_in p g ts u h = bytes_in _ u (trees_in _ ts (bytes_in _ (40 ∷ []) (bytes_in p g h)))

  opening_in : (p : Place) (l : Level) → P p → P (opening_place p l)
  opening_in p (in_list g ts) h = bytes_in p g h
  opening_in p (at_dot g ts u) h = bytes_in p g h
  opening_in p (at_tail g ts u i t) h = bytes_in p g h
  opening_in p (in_vector g ts) h = bytes_in p g h
  opening_in p (at_prefix g x) h = bytes_in p g h

  level_in : (p : Place) (l : Level) → P p → P (level_behind p l)
  level_in p (in_list g ts) h = trees_in _ ts (bytes_in _ (40 ∷ []) (bytes_in p g h))
  level_in p (at_dot g ts u) h = bytes_in _ (46 ∷ []) (dot_in p g ts u h)
  level_in p (at_tail g ts u i t) h = tree_in _ t (bytes_in _ i (bytes_in _ (46 ∷ []) (dot_in p g ts u h)))
  level_in p (in_vector g ts) h = trees_in _ ts (bytes_in _ (35 ∷ 40 ∷ []) (bytes_in p g h))
  level_in p (at_prefix g x) h = bytes_in _ (prefix_bytes x) (bytes_in p g h)

  levels_in : (p : Place) (ts : Trees) (ls : List Level) → P p → P (levels_behind p ts ls)
  levels_in p ts [] h = trees_in p ts h
  levels_in p ts (l ∷ ls) h = level_in _ l (levels_in p ts ls h)

  innermost_in : (p : Place) (ts : Trees) (ls : List Level) (at : Place) → P p → InnermostAt p ts ls at → P at
  innermost_in p ts _ _ h (innermost_at l ls) = opening_in _ l (levels_in p ts ls h)

  at_dot_in : (p : Place) (ts : Trees) (ls : List Level) (at : Place) → P p → EndsAtDot p ts ls at → P at
  at_dot_in p ts _ _ h (ends_at_dot g us u ls) = dot_in _ g us u (levels_in p ts ls h)

  at_tail_in : (p : Place) (ts : Trees) (ls : List Level) (at : Place) → P p → EndsAtTail p ts ls at → P at
  at_tail_in p ts _ _ h (ends_at_tail g us u i t ls) = dot_in _ g us u (levels_in p ts ls h)

  row_in : (p : Place) (ts : Trees) (ls : List Level) (q : Place) (rest : List ℕ) (at : Place) (r : Reason) → P p → P q → Row p ts ls q rest at r → P at
  row_in p ts ls q _ _ _ h k (bad_byte b bs x) = k
  row_in p ts ls q _ _ _ h k (bad_byte_in_bars bs content b more x y) = bytes_in q (124 ∷ bs) k
  row_in p ts ls q _ _ _ h k (bad_byte_escaped bs content b more x y) = bytes_in q (124 ∷ (bs ++ 92 ∷ [])) k
  row_in p ts ls q _ _ _ h k (unclosed_list at x) = innermost_in p ts ls at h x
  row_in p ts ls q _ _ _ h k (unclosed_string bs content x) = k
  row_in p ts ls q _ _ _ h k (unclosed_string_escaped bs content x) = k
  row_in p ts ls q _ _ _ h k (unclosed_bar bs content x) = k
  row_in p ts ls q _ _ _ h k (unclosed_bar_escaped bs content x) = k
  row_in p ts ls q _ _ _ h k (unclosed_comment bs n x) = k
  row_in p ts ls q _ _ _ h k (stray_close bs x) = k
  row_in p ts ls q _ _ _ h k (bad_dot bs x y) = k
  row_in p ts ls q _ _ _ h k (dot_closed bs at x) = at_dot_in p ts ls at h x
  row_in p ts ls q _ _ _ h k (dot_second t after at x y) = at_tail_in p ts ls at h x
  row_in p ts ls q _ _ _ h k (dot_opening bs at x y z) = at_tail_in p ts ls at h x
  row_in p ts ls q _ _ _ h k (bad_sharp bs x) = k
  row_in p ts ls q _ _ _ h k (float_literal w after x y z) = k
  row_in p ts ls q _ _ _ h k (integer_too_wide w after x y z) = k
  row_in p ts ls q _ _ _ h k (based_too_wide letter base w after x y z u) = k
  row_in p ts ls q _ _ _ h k (nest_too_deep bs x y) = k
  row_in p ts ls q _ _ _ h k (token_too_long w after x y z u) = k
  row_in p ts ls q _ _ _ h k (bar_too_long bs name after x y) = k

  pub stop_in : (p : Place) (text : List ℕ) (at : Place) (r : Reason) → P p → Stops p text at r → P at
  stop_in p text at r h s =
      row_in p s.front.data_before s.front.levels (front_behind p s.front) s.rest at r h (bytes_in _ s.front.gap (levels_in p s.front.data_before s.front.levels h)) s.row
