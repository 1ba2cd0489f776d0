-- What shapes give of good data: parts that are good data too.
use Rattle.std.specs.Prelude.{ℕ, List, [], ◌∷◌, Option, Some, None, Bool, true, false}
use Rattle.base.specs.declared.place.Place.{Place}
use Rattle.base.specs.declared.datum.Symbol.{Symbol}
use Rattle.base.specs.Data.{Item, item, integer, character, symbol, string, vector, nil, list, Items, no_item, item_and, items_list, Tail, no_tail, dotted}
use Rattle.base.specs.DataMeasures.{Formed, NamesBelow}
use Rattle.base.specs.AllOf.{AllOf, all_both}
use Rattle.base.specs.DataParts.{AllItems}
use Rattle.base.specs.WellFormedData.{WellFormed, formed_parts, below_parts}
use Rattle.lang_derived.specs.Asked.{list_items}
use Rattle.front_profile.specs.declared.tables.ReservedWords.{ReservedWords}
use Rattle.front_profile.specs.Shapes.{symbol_of, all_differ, only_if, variable_in, Pair, pair_named, pair_items, pair_in, pair_and, each_pair, names_of_pairs, where_names_differ, pairs_of_items, pairs_in, ClauseParts, clause_of, clause_and_more, clauses_in, form_unless, forms_in}

-- the items of a list, where there is one
abbrev pub MaybeGood : ℕ → Option (List Item) → Type 0
MaybeGood n None = Unit {0}
MaybeGood n (Some ds) = AllOf (WellFormed n) ds

each_good : (n : ℕ) (ds : Items) → AllItems Formed ds → AllItems (NamesBelow n) ds → AllOf (WellFormed n) (items_list ds)
each_good n no_item f b = tt
each_good n (item_and d ds) f b = (record { formed = f.0; named = b.0 }, each_good n ds f.1 b.1)

-- the items of a list
pub good_list : (n : ℕ) (p : Place) (ds : Items) (t : Tail) → WellFormed n (item p (list ds t)) → AllOf (WellFormed n) (items_list ds)
good_list n p ds t g = each_good n ds (formed_parts (item p (list ds t)) g.formed).0 (below_parts n (item p (list ds t)) g.named).0

pub good_parts : (n : ℕ) (d : Item) → WellFormed n d → MaybeGood n (list_items d)
good_parts n (item p (list ds no_tail)) g = good_list n p ds no_tail g
good_parts n (item p (list ds (dotted d))) g = tt
good_parts n (item p (integer z)) g = tt
good_parts n (item p (character c)) g = tt
good_parts n (item p (symbol x)) g = tt
good_parts n (item p (string bytes)) g = tt
good_parts n (item p (vector ds)) g = tt
good_parts n (item p nil) g = tt

-- bindings: the forms of their values

abbrev pub WellFormedPairs : ℕ → List Pair → Type 0
WellFormedPairs n [] = Unit {0}
WellFormedPairs n (q ∷ qs) = WellFormed n q.datum × WellFormedPairs n qs

abbrev pub MaybePair : ℕ → Option Pair → Type 0
MaybePair n None = Unit {0}
MaybePair n (Some q) = WellFormed n q.datum

abbrev pub MaybePairs : ℕ → Option (List Pair) → Type 0
MaybePairs n None = Unit {0}
MaybePairs n (Some qs) = WellFormedPairs n qs

named_pair : (n : ℕ) (x : Option Symbol) (d : Item) → WellFormed n d → MaybePair n (pair_named x d)
named_pair n None d g = tt
named_pair n (Some x) d g = g

pair_of_items : (n : ℕ) (w : ReservedWords) (ds : Option (List Item)) → MaybeGood n ds → MaybePair n (pair_items w ds)
pair_of_items n w None g = tt
pair_of_items n w (Some []) g = tt
pair_of_items n w (Some (d ∷ [])) g = tt
pair_of_items n w (Some (d ∷ e ∷ [])) g = named_pair n (variable_in w (symbol_of d)) e g.1.0
pair_of_items n w (Some (d ∷ e ∷ f ∷ ds)) g = tt

one_pair_more : (n : ℕ) (q : Option Pair) (qs : Option (List Pair)) → MaybePair n q → MaybePairs n qs → MaybePairs n (pair_and q qs)
one_pair_more n None qs g h = tt
one_pair_more n (Some q) None g h = tt
one_pair_more n (Some q) (Some qs) g h = (g, h)

pairs_of : (n : ℕ) (w : ReservedWords) (ds : List Item) → AllOf (WellFormed n) ds → MaybePairs n (each_pair w ds)
pairs_of n w [] g = tt
pairs_of n w (d ∷ ds) g = one_pair_more n (pair_in w d) (each_pair w ds) (pair_of_items n w (list_items d) (good_parts n d g.0)) (pairs_of n w ds g.1)

where_so : (n : ℕ) (b : Bool) (qs : List Pair) → WellFormedPairs n qs → MaybePairs n (only_if b qs)
where_so n true qs g = g
where_so n false qs g = tt

where_different : (n : ℕ) (qs : Option (List Pair)) → MaybePairs n qs → MaybePairs n (where_names_differ qs)
where_different n None g = tt
where_different n (Some qs) g = where_so n (all_differ (names_of_pairs qs)) qs g

pairs_of_list : (n : ℕ) (w : ReservedWords) (ds : Option (List Item)) → MaybeGood n ds → MaybePairs n (pairs_of_items w ds)
pairs_of_list n w None g = tt
pairs_of_list n w (Some ds) g = where_different n (each_pair w ds) (pairs_of n w ds g)

-- the bindings of a `let`
pub good_pairs : (n : ℕ) (w : ReservedWords) (d : Item) → WellFormed n d → MaybePairs n (pairs_in w d)
good_pairs n w d g = pairs_of_list n w (list_items d) (good_parts n d g)

-- clauses: their tests and their bodies

abbrev pub WellFormedClauses : ℕ → List ClauseParts → Type 0
WellFormedClauses n [] = Unit {0}
WellFormedClauses n (c ∷ cs) = WellFormed n c.test × AllOf (WellFormed n) c.body × WellFormedClauses n cs

abbrev pub MaybeClause : ℕ → Option ClauseParts → Type 0
MaybeClause n None = Unit {0}
MaybeClause n (Some c) = WellFormed n c.test × AllOf (WellFormed n) c.body

abbrev pub MaybeClauses : ℕ → Option (List ClauseParts) → Type 0
MaybeClauses n None = Unit {0}
MaybeClauses n (Some cs) = WellFormedClauses n cs

clause_of_list : (n : ℕ) (ds : Option (List Item)) → MaybeGood n ds → MaybeClause n (clause_of ds)
clause_of_list n None g = tt
clause_of_list n (Some []) g = tt
clause_of_list n (Some (d ∷ ds)) g = g

one_clause_more : (n : ℕ) (c : Option ClauseParts) (cs : Option (List ClauseParts)) → MaybeClause n c → MaybeClauses n cs → MaybeClauses n (clause_and_more c cs)
one_clause_more n None cs g h = tt
one_clause_more n (Some c) None g h = tt
one_clause_more n (Some c) (Some cs) g h = (g.0, g.1, h)

-- the clauses of a `cond`
pub good_clauses : (n : ℕ) (ds : List Item) → AllOf (WellFormed n) ds → MaybeClauses n (clauses_in ds)
good_clauses n [] g = tt
good_clauses n (d ∷ ds) g = one_clause_more n (clause_of (list_items d)) (clauses_in ds) (clause_of_list n (list_items d) (good_parts n d g.0)) (good_clauses n ds g.1)

-- the forms of a `tagbody`

form_if : (n : ℕ) (x : Option Symbol) (d : Item) → WellFormed n d → AllOf (WellFormed n) (form_unless x d)
form_if n None d g = (g, tt)
form_if n (Some x) d g = tt

pub good_forms : (n : ℕ) (ds : List Item) → AllOf (WellFormed n) ds → AllOf (WellFormed n) (forms_in ds)
good_forms n [] g = tt
good_forms n (d ∷ ds) g = all_both (WellFormed n) (form_unless (symbol_of d) d) (forms_in ds) (form_if n (symbol_of d) d g.0) (good_forms n ds g.1)
