-- What holds of all places of a datum holds of those of its parts, and of those of what shapes find in it.
use Rattle.std.specs.Prelude.{List, [], ◌∷◌, Option, Some, None, Bool, true, false, refl}
use Rattle.std.proofs.Common.{inl, inr, ⊎_elim, sym, subst}
use Rattle.base.specs.declared.place.Place.{Place}
use Rattle.base.specs.declared.datum.Symbol.{Symbol}
use Rattle.base.specs.Data.{Item, item, Content, integer, character, symbol, string, vector, nil, list, Items, no_item, item_and, items_list, Tail, no_tail, dotted, place_of}
use Rattle.base.specs.AllOf.{AllOf, all_both}
use Rattle.base.specs.DataParts.{AllItems, OfDotted, AllParts}
use Rattle.lang_derived.specs.Asked.{list_items}
use Rattle.front_profile.specs.declared.tables.ReservedWords.{ReservedWords}
use Rattle.front_profile.specs.Shapes.{symbol_of, all_differ, only_if, variable_in, Pair, pair_named, pair_items, pair_in, pair_and, each_pair, names_of_pairs, where_names_differ, pairs_of_items, pairs_in, ClauseParts, clause_of, clause_and_more, clauses_in, form_unless, forms_in}
use Rattle.front_laws.specs.Places.{IsPlaceIn, IsPlaceInside, IsPlaceAmong, IsPlaceBehind}
use Rattle.front_laws.proofs.AllPlaces.{AllPlaces, AllPlacesInside, AllPlacesAmong, AllPlacesBehind}

-- ---- all places, and each

mutual
  unfolding AllPlaces IsPlaceIn

  pub each_then_all : (P : Place → Type 0) (d : Item) → ((q : Place) → IsPlaceIn q d → P q) → AllPlaces P d
  each_then_all P (item p c) f = (f p (inl refl), inside_then_all P c (λ q h. f q (inr h)))

  inside_then_all : (P : Place → Type 0) (c : Content) → ((q : Place) → IsPlaceInside q c → P q) → AllPlacesInside P c
  inside_then_all P (integer n) f = tt
  inside_then_all P (character c) f = tt
  inside_then_all P (symbol s) f = tt
  inside_then_all P (string bytes) f = tt
  inside_then_all P (vector ds) f = among_then_all P ds f
  inside_then_all P nil f = tt
  inside_then_all P (list ds t) f = (among_then_all P ds (λ q h. f q (inl h)), behind_then_all P t (λ q h. f q (inr h)))

  among_then_all : (P : Place → Type 0) (ds : Items) → ((q : Place) → IsPlaceAmong q ds → P q) → AllPlacesAmong P ds
  among_then_all P no_item f = tt
  among_then_all P (item_and d ds) f = (each_then_all P d (λ q h. f q (inl h)), among_then_all P ds (λ q h. f q (inr h)))

  behind_then_all : (P : Place → Type 0) (t : Tail) → ((q : Place) → IsPlaceBehind q t → P q) → AllPlacesBehind P t
  behind_then_all P no_tail f = tt
  behind_then_all P (dotted d) f = each_then_all P d f

-- the way back

mutual
  unfolding AllPlaces IsPlaceIn

  pub all_then_each : (P : Place → Type 0) (d : Item) → AllPlaces P d → (q : Place) → IsPlaceIn q d → P q
  all_then_each P (item p c) h q i = ⊎_elim (λ e. subst P (sym e) h.0) (λ j. all_then_inside P c h.1 q j) i

  all_then_inside : (P : Place → Type 0) (c : Content) → AllPlacesInside P c → (q : Place) → IsPlaceInside q c → P q
  all_then_inside P (integer n) h q i = absurd i
  all_then_inside P (character c) h q i = absurd i
  all_then_inside P (symbol s) h q i = absurd i
  all_then_inside P (string bytes) h q i = absurd i
  all_then_inside P (vector ds) h q i = all_then_among P ds h q i
  all_then_inside P nil h q i = absurd i
  all_then_inside P (list ds t) h q i = ⊎_elim (λ j. all_then_among P ds h.0 q j) (λ j. all_then_behind P t h.1 q j) i

  all_then_among : (P : Place → Type 0) (ds : Items) → AllPlacesAmong P ds → (q : Place) → IsPlaceAmong q ds → P q
  all_then_among P no_item h q i = absurd i
  all_then_among P (item_and d ds) h q i = ⊎_elim (λ j. all_then_each P d h.0 q j) (λ j. all_then_among P ds h.1 q j) i

  all_then_behind : (P : Place → Type 0) (t : Tail) → AllPlacesBehind P t → (q : Place) → IsPlaceBehind q t → P q
  all_then_behind P no_tail h q i = absurd i
  all_then_behind P (dotted d) h q i = all_then_each P d h q i

-- ---- parts of a datum

module _ (P : Place → Type 0) where
  pub its_place : (d : Item) → AllPlaces P d → P (place_of d)
  unfolding AllPlaces
  its_place (item p c) g = g.0

  among_too : (ds : Items) → AllPlacesAmong P ds → AllItems (AllPlaces P) ds
  unfolding AllPlaces
  among_too no_item g = tt
  among_too (item_and d ds) g = (g.0, among_too ds g.1)

  behind_too : (t : Tail) → AllPlacesBehind P t → OfDotted (AllPlaces P) t
  unfolding AllPlaces
  behind_too no_tail g = tt
  behind_too (dotted d) g = g

  pub its_parts : (d : Item) → AllPlaces P d → AllParts (AllPlaces P) d
  unfolding AllPlaces
  its_parts (item p (integer z)) g = tt
  its_parts (item p (character c)) g = tt
  its_parts (item p (symbol x)) g = tt
  its_parts (item p (string bytes)) g = tt
  its_parts (item p (vector ds)) g = among_too ds g.1
  its_parts (item p nil) g = tt
  its_parts (item p (list ds t)) g = (among_too ds g.1.0, behind_too t g.1.1)

  -- the items of a list, where there is one
  abbrev pub MaybeAll : Option (List Item) → Type 0
  MaybeAll None = Unit {0}
  MaybeAll (Some ds) = AllOf (AllPlaces P) ds

  each_item : (ds : Items) → AllItems (AllPlaces P) ds → AllOf (AllPlaces P) (items_list ds)
  each_item no_item g = tt
  each_item (item_and d ds) g = (g.0, each_item ds g.1)

  pub items_all : (p : Place) (ds : Items) (t : Tail) → AllPlaces P (item p (list ds t)) → AllOf (AllPlaces P) (items_list ds)
  items_all p ds t g = each_item ds (its_parts (item p (list ds t)) g).0

  pub list_all_places : (d : Item) → AllPlaces P d → MaybeAll (list_items d)
  list_all_places (item p (list ds no_tail)) g = items_all p ds no_tail g
  list_all_places (item p (list ds (dotted d))) g = tt
  list_all_places (item p (integer z)) g = tt
  list_all_places (item p (character c)) g = tt
  list_all_places (item p (symbol x)) g = tt
  list_all_places (item p (string bytes)) g = tt
  list_all_places (item p (vector ds)) g = tt
  list_all_places (item p nil) g = tt

  -- ---- bindings: the forms of their values

  abbrev pub AllPairs : List Pair → Type 0
  AllPairs [] = Unit {0}
  AllPairs (q ∷ qs) = AllPlaces P q.datum × AllPairs qs

  abbrev pub MaybePair : Option Pair → Type 0
  MaybePair None = Unit {0}
  MaybePair (Some q) = AllPlaces P q.datum

  abbrev pub MaybePairs : Option (List Pair) → Type 0
  MaybePairs None = Unit {0}
  MaybePairs (Some qs) = AllPairs qs

  named_pair : (x : Option Symbol) (d : Item) → AllPlaces P d → MaybePair (pair_named x d)
  named_pair None d g = tt
  named_pair (Some x) d g = g

  pair_of_items : (w : ReservedWords) (ds : Option (List Item)) → MaybeAll ds → MaybePair (pair_items w ds)
  pair_of_items w None g = tt
  pair_of_items w (Some []) g = tt
  pair_of_items w (Some (d ∷ [])) g = tt
  pair_of_items w (Some (d ∷ e ∷ [])) g = named_pair (variable_in w (symbol_of d)) e g.1.0
  pair_of_items w (Some (d ∷ e ∷ f ∷ ds)) g = tt

  one_pair_more : (q : Option Pair) (qs : Option (List Pair)) → MaybePair q → MaybePairs qs → MaybePairs (pair_and q qs)
  one_pair_more None qs g h = tt
  one_pair_more (Some q) None g h = tt
  one_pair_more (Some q) (Some qs) g h = (g, h)

  pairs_of : (w : ReservedWords) (ds : List Item) → AllOf (AllPlaces P) ds → MaybePairs (each_pair w ds)
  pairs_of w [] g = tt
  pairs_of w (d ∷ ds) g = one_pair_more (pair_in w d) (each_pair w ds) (pair_of_items w (list_items d) (list_all_places d g.0)) (pairs_of w ds g.1)

  where_so : (b : Bool) (qs : List Pair) → AllPairs qs → MaybePairs (only_if b qs)
  where_so true qs g = g
  where_so false qs g = tt

  where_different : (qs : Option (List Pair)) → MaybePairs qs → MaybePairs (where_names_differ qs)
  where_different None g = tt
  where_different (Some qs) g = where_so (all_differ (names_of_pairs qs)) qs g

  pairs_of_list : (w : ReservedWords) (ds : Option (List Item)) → MaybeAll ds → MaybePairs (pairs_of_items w ds)
  pairs_of_list w None g = tt
  pairs_of_list w (Some ds) g = where_different (each_pair w ds) (pairs_of w ds g)

  -- the bindings of a `let`
  pub all_pairs : (w : ReservedWords) (d : Item) → AllPlaces P d → MaybePairs (pairs_in w d)
  all_pairs w d g = pairs_of_list w (list_items d) (list_all_places d g)

  -- ---- clauses: their tests and their bodies

  abbrev pub AllClauses : List ClauseParts → Type 0
  AllClauses [] = Unit {0}
  AllClauses (c ∷ cs) = AllPlaces P c.test × AllOf (AllPlaces P) c.body × AllClauses cs

  abbrev pub MaybeClause : Option ClauseParts → Type 0
  MaybeClause None = Unit {0}
  MaybeClause (Some c) = AllPlaces P c.test × AllOf (AllPlaces P) c.body

  abbrev pub MaybeClauses : Option (List ClauseParts) → Type 0
  MaybeClauses None = Unit {0}
  MaybeClauses (Some cs) = AllClauses cs

  clause_of_list : (ds : Option (List Item)) → MaybeAll ds → MaybeClause (clause_of ds)
  clause_of_list None g = tt
  clause_of_list (Some []) g = tt
  clause_of_list (Some (d ∷ ds)) g = g

  one_clause_more : (c : Option ClauseParts) (cs : Option (List ClauseParts)) → MaybeClause c → MaybeClauses cs → MaybeClauses (clause_and_more c cs)
  one_clause_more None cs g h = tt
  one_clause_more (Some c) None g h = tt
  one_clause_more (Some c) (Some cs) g h = (g.0, g.1, h)

  -- the clauses of a `cond`
  pub all_clauses : (ds : List Item) → AllOf (AllPlaces P) ds → MaybeClauses (clauses_in ds)
  all_clauses [] g = tt
  all_clauses (d ∷ ds) g = one_clause_more (clause_of (list_items d)) (clauses_in ds) (clause_of_list (list_items d) (list_all_places d g.0)) (all_clauses ds g.1)

  -- ---- the forms of a `tagbody`

  form_if : (x : Option Symbol) (d : Item) → AllPlaces P d → AllOf (AllPlaces P) (form_unless x d)
  form_if None d g = (g, tt)
  form_if (Some x) d g = tt

  pub all_forms : (ds : List Item) → AllOf (AllPlaces P) ds → AllOf (AllPlaces P) (forms_in ds)
  all_forms [] g = tt
  all_forms (d ∷ ds) g = all_both (AllPlaces P) (form_unless (symbol_of d) d) (forms_in ds) (form_if (symbol_of d) d g.0) (all_forms ds g.1)
