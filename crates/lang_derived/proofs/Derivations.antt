-- What holds of all that the rows make holds of all that the table makes.
use Rattle.std.specs.Prelude.{◌≡◌, ℕ, Bool, true, false, List, [], ◌∷◌, Option, Some, None, if◌then◌else◌}
use Rattle.std.specs.Str.{bytes_eq}
use Rattle.base.specs.Data.{Item, item, Content, integer, character, symbol, string, vector, nil, list, items_list, Tail, no_tail, dotted}
use Rattle.base.specs.DataNames.{text_of}
use Rattle.base.specs.AllOf.{AllOf}
use Rattle.lang_derived.specs.Pieces.{Piece, Right}
use Rattle.lang_derived.specs.Patterns.{Parts, fit_all}
use Rattle.lang_derived.specs.RightSides.{write_all}
use Rattle.lang_derived.specs.Table.{Row, table, is_derived}
use Rattle.lang_derived.specs.Derived.{right_of, row_right, or_else, first_right, table_right, Derivation, plain, unfit, becomes, judged, by_table, by_name, list_derivation, derivation}
use Rattle.lang_derived.proofs.Parts.{OfPartsSome, OfParts}
use Rattle.lang_derived.proofs.Names.{both_true}

abbrev pub OfRight : (Piece → Type 0) → Option Right → Type 0
OfRight Q None = Unit {0}
OfRight Q (Some r) = Q r.piece

abbrev pub OfDerivation : (Piece → Type 0) → Derivation → Type 0
OfDerivation Q plain = Unit {0}
OfDerivation Q unfit = Unit {0}
OfDerivation Q (becomes r) = Q r.piece

-- of data of which A holds, the row makes parts of which Q holds
abbrev pub RowKeeps : (List Item → Type 0) → (Piece → Type 0) → Row → Type 0
RowKeeps A Q r = (names : List (List ℕ)) (s : ℕ) (ds : List Item) → A ds → OfRight Q (row_right names s r (fit_all names r.parts ds))

abbrev pub AllRows : (Row → Type 0) → List Row → Type 0
AllRows Q [] = Unit {0}
AllRows Q (r ∷ rs) = Q r × AllRows Q rs

abbrev pub AllGroups : (Row → Type 0) → List (List Row) → Type 0
AllGroups Q [] = Unit {0}
AllGroups Q (g ∷ gs) = AllRows Q g × AllGroups Q gs

-- rows that pass a test

abbrev pub rows_pass : (Row → Bool) → List Row → Bool
rows_pass f [] = true
rows_pass f (r ∷ rs) = if f r then rows_pass f rs else false

abbrev pub groups_pass : (Row → Bool) → List (List Row) → Bool
groups_pass f [] = true
groups_pass f (g ∷ gs) = if rows_pass f g then groups_pass f gs else false

pub passed_rows : (f : Row → Bool) (Q : Row → Type 0) → ((r : Row) → f r ≡ true → Q r) → (rs : List Row) → rows_pass f rs ≡ true → AllRows Q rs
passed_rows f Q g [] h = tt
passed_rows f Q g (r ∷ rs) h =
    let b : (f r ≡ true) × (rows_pass f rs ≡ true) = both_true (f r) (rows_pass f rs) h in (g r b.0, passed_rows f Q g rs b.1)

pub passed_groups : (f : Row → Bool) (Q : Row → Type 0) → ((r : Row) → f r ≡ true → Q r) → (gs : List (List Row)) → groups_pass f gs ≡ true → AllGroups Q gs
passed_groups f Q g [] h = tt
passed_groups f Q g (rs ∷ gs) h =
    let b : (rows_pass f rs ≡ true) × (groups_pass f gs ≡ true) = both_true (rows_pass f rs) (groups_pass f gs) h in
    (passed_rows f Q g rs b.0, passed_groups f Q g gs b.1)

-- a row, by what holds of all that its right side writes

right_kept : (Q : Piece → Type 0) (xs new : List Piece) → AllOf Q xs → OfRight Q (right_of xs new)
right_kept Q [] new h = tt
right_kept Q (x ∷ []) new h = h.0
right_kept Q (x ∷ y ∷ xs) new h = tt

pub row_kept : (P : Item → Type 0) (Q : Piece → Type 0) (names : List (List ℕ)) (s : ℕ) (r : Row)
    → ((parts : Parts) → OfParts P parts → AllOf Q (write_all names s r.right s parts)) → (found : Option Parts) → OfPartsSome P found
    → OfRight Q (row_right names s r found)
row_kept P Q names s r f None h = tt
row_kept P Q names s r f (Some parts) h = right_kept Q (write_all names s r.right s parts) (write_all names s r.new s parts) (f parts h)

-- the table

or_else_kept : (Q : Piece → Type 0) (x y : Option Right) → OfRight Q x → OfRight Q y → OfRight Q (or_else x y)
or_else_kept Q None y g h = h
or_else_kept Q (Some x) y g h = g

chosen : (Q : Piece → Type 0) (b : Bool) (x y : Option Right) → OfRight Q x → OfRight Q y → OfRight Q (if b then x else y)
chosen Q true x y g h = g
chosen Q false x y g h = h

module _ (A : List Item → Type 0) (Q : Piece → Type 0) (names : List (List ℕ)) (s : ℕ) where
  first_kept : (rs : List Row) → AllRows (RowKeeps A Q) rs → (name : List ℕ) (ds : List Item) → A ds → OfRight Q (first_right names s rs name ds)
  first_kept [] h name ds a = tt
  first_kept (r ∷ rs) h name ds a =
      let more : OfRight Q (first_right names s rs name ds) = first_kept rs h.1 name ds a in
      chosen Q (bytes_eq name r.name) _ _ (or_else_kept Q _ _ (h.0 names s ds a) more) more

  table_kept : (gs : List (List Row)) → AllGroups (RowKeeps A Q) gs → (name : List ℕ) (ds : List Item) → A ds → OfRight Q (table_right names s gs name ds)
  table_kept [] h name ds a = tt
  table_kept (g ∷ gs) h name ds a =
      or_else_kept Q (first_right names s g name ds) (table_right names s gs name ds) (first_kept g h.0 name ds a) (table_kept gs h.1 name ds a)

judged_kept : (Q : Piece → Type 0) (r : Option Right) → OfRight Q r → OfDerivation Q (judged r)
judged_kept Q None h = tt
judged_kept Q (Some r) h = h

either_kept : (Q : Piece → Type 0) (b : Bool) (x y : Derivation) → OfDerivation Q x → OfDerivation Q y → OfDerivation Q (if b then x else y)
either_kept Q true x y g h = g
either_kept Q false x y g h = h

-- it holds of the data behind the first item
abbrev pub OfBehind : (List Item → Type 0) → List Item → Type 0
OfBehind A [] = Unit {0}
OfBehind A (d ∷ ds) = A ds

abbrev pub OfContentArguments : (List Item → Type 0) → Content → Type 0
OfContentArguments A (list ds t) = OfBehind A (items_list ds)
OfContentArguments A (integer n) = Unit {0}
OfContentArguments A (character c) = Unit {0}
OfContentArguments A (symbol x) = Unit {0}
OfContentArguments A (string bytes) = Unit {0}
OfContentArguments A (vector ds) = Unit {0}
OfContentArguments A nil = Unit {0}

-- it holds of the data behind the name of a form
abbrev pub OfArguments : (List Item → Type 0) → Item → Type 0
OfArguments A (item p c) = OfContentArguments A c

module _ (A : List Item → Type 0) (Q : Piece → Type 0) (rows : AllGroups (RowKeeps A Q) table) (names : List (List ℕ)) (s : ℕ) where
  by_table_kept : (name : List ℕ) (ds : List Item) (t : Tail) → A ds → OfDerivation Q (by_table names s name ds t)
  by_table_kept name ds no_tail a = judged_kept Q (table_right names s table name ds) (table_kept A Q names s table rows name ds a)
  by_table_kept name ds (dotted d) a = tt

  by_name_kept : (name : Option (List ℕ)) (ds : List Item) (t : Tail) → A ds → OfDerivation Q (by_name names s name ds t)
  by_name_kept None ds t a = tt
  by_name_kept (Some name) ds t a = either_kept Q (is_derived name) (by_table names s name ds t) plain (by_table_kept name ds t a) tt

  list_kept : (ds : List Item) (t : Tail) → OfBehind A ds → OfDerivation Q (list_derivation names s ds t)
  list_kept [] t a = tt
  list_kept (d ∷ ds) t a = by_name_kept (text_of names d) ds t a

  pub derivation_kept : (d : Item) → OfArguments A d → OfDerivation Q (derivation names s d)
  unfolding derivation
  derivation_kept (item p (integer n)) a = tt
  derivation_kept (item p (character c)) a = tt
  derivation_kept (item p (symbol x)) a = tt
  derivation_kept (item p (string bytes)) a = tt
  derivation_kept (item p (vector ds)) a = tt
  derivation_kept (item p nil) a = tt
  derivation_kept (item p (list ds t)) a = list_kept (items_list ds) t a
