-- The value that a datum makes as a literal stands for that datum.
use Rattle.std.proofs.Common.{◌≡◌, ℕ, suc, ◌+◌, ◌-◌, ◌/◌, ◌≤◌, false, List, [], ◌∷◌, ◌++◌, length, Some, refl, sym, ap, subst, ◌∙◌, arith}
use Rattle.std.specs.Prelude.{slice_get}
use Rattle.std.proofs.lemmas.Option.{slice_get-get_or}
use Rattle.base.specs.declared.place.Place.{Place}
use Rattle.base.specs.declared.datum.Symbol.TheVariants.{Named, Fresh}
use Rattle.base.specs.Data.{Item, item, Content, integer, character, symbol, string, vector, nil, list}
use Rattle.base.specs.Data.{Items, no_item, item_and, Tail, no_tail, dotted, content_of}
use Rattle.base.specs.DataMeasures.{size_of, sizes_of, size_of_tail, depth_of, depths_of, depth_of_tail, IsNoList}
use Rattle.base.specs.DataMeasures.{Formed, AllFormed, FormedTail, NamesBelow, AllNamesBelow, NamesBelowTail}
use Rattle.base.specs.DataFormed.{formed_tells}
use Rattle.base.specs.Names.{slice_get-front, slice_get-behind}
use Rattle.lang_meaning.specs.Lookup.{text}
use Rattle.lang_meaning.specs.Literals.{lay, lay_items, lay_list, lay_tail, symbol_of}
use Rattle.lang_meaning.specs.Objects.{Object}
use Rattle.lang_meaning.specs.Objects as object
use Rattle.lang_taken.specs.Shapes.{Shape, shape_of, shape_of_object, is_list}
use Rattle.lang_taken.specs.Shapes as shape
use Rattle.lang_taken.specs.Taken.{of_name, of_other_expansion}
use Rattle.lang_taken.specs.Taken.{TakesShape, takes_integer, takes_character, takes_symbol, takes_string, takes_vector, takes_nil, takes_list}
use Rattle.lang_taken.specs.Taken.{TakesElements, no_element, an_element, TakesChain, at_nil, at_cons, at_dot}
use Rattle.lang_taken.specs.Bytes.{HasBytes, AllHaveBytes, TailHasBytes}
use Rattle.lang_taken.specs.Placed.{at_place, content_at_place, items_at_place, tail_at_place}
use Rattle.lang_taken.specs.Laws.{LawOfLaid}
use Rattle.lang_taken.proofs.Once.{symbol_no_list}

-- objects stand in the store from a number on
record StandFrom (all : List Object) (n : ℕ) (objects : List Object) : Type 0 where
  each : (i : ℕ) (o : Object) → slice_get objects i ≡ Some o → slice_get all (n + i) ≡ Some o

-- so do those in front of others and those behind
front_stands : (all : List Object) (n : ℕ) (xs ys : List Object) → StandFrom all n (xs ++ ys) → StandFrom all n xs
front_stands all n xs ys h = record { each = λ i o at. h.each i o (slice_get-front xs ys i o at) }

behind_at : (xs ys : List Object) (i : ℕ) (o : Object) → slice_get ys i ≡ Some o → slice_get (xs ++ ys) (length xs + i) ≡ Some o
behind_at [] ys i o at = let same : 0 + i ≡ i = omega arith in ap (slice_get ys) same ∙ at
behind_at (x ∷ xs) ys i o at =
    let same : suc (length xs) + i ≡ suc (length xs + i) = omega arith in ap (slice_get (x ∷ xs ++ ys)) same ∙ behind_at xs ys i o at

behind_stand : (all : List Object) (n : ℕ) (xs ys : List Object) → StandFrom all n (xs ++ ys) → StandFrom all (n + length xs) ys
behind_stand all n xs ys h = record {
  each = λ i o at.
      let same : n + length xs + i ≡ n + (length xs + i) = omega arith in
      ap (slice_get all) same ∙ h.each (length xs + i) o (behind_at xs ys i o at);
}

-- the object behind its parts
made_stands : (all : List Object) (n : ℕ) (parts : List Object) (o : Object) → StandFrom all n (parts ++ o ∷ []) → slice_get all (n + length parts) ≡ Some o
made_stands all n parts o h = h.each (length parts) o (slice_get-behind parts o)

-- what is no list stands for no list at another place either
no_list_placed : (p : Place) (c : Content) → IsNoList c → IsNoList (content_at_place p c)
no_list_placed p (integer n) h = tt
no_list_placed p (character c) h = tt
no_list_placed p (symbol s) h = tt
no_list_placed p (string bytes) h = tt
no_list_placed p (vector ds) h = tt
no_list_placed p nil h = absurd h
no_list_placed p (list ds t) h = absurd h

module _ (names : List (List ℕ)) (all : List Object) (place : Place) (expansion : ℕ) where
  -- what stands for no list is none
  shape_no_list :
      (deep left : ℕ) (s : Shape) (d : Item) (rest : ℕ) → TakesShape names all place expansion deep left s d rest → IsNoList (content_of d)
      → is_list s ≡ false
  shape_no_list deep left s d rest (takes_integer _ _ n range) h = refl
  shape_no_list deep left s d rest (takes_character _ _ c small) h = refl
  shape_no_list deep left s d rest (takes_symbol _ _ _ one is) h = symbol_no_list names expansion s one is
  shape_no_list deep left s d rest (takes_string _ _ _ bytes every enough) h = refl
  shape_no_list deep left s d rest (takes_vector _ _ _ vs ds parts) h = refl
  shape_no_list deep left s d rest (takes_nil _ _) h = absurd h
  shape_no_list deep left s d rest (takes_list _ _ _ car cdr ds t parts) h = absurd h

  -- with so much left, and of that shape
  of_shape :
      (deep deep' left left' rest : ℕ) (s t : Shape) (d : Item) → deep ≡ deep' → left ≡ left' → s ≡ t → TakesShape names all place expansion deep' left' t d rest
      → TakesShape names all place expansion deep left s d rest
  of_shape deep deep' left left' rest s t d levels much same h =
      let P : ℕ → Type 0 = λ n. TakesShape names all place expansion n left s d rest in
      let Q : ℕ → Type 0 = λ n. TakesShape names all place expansion deep' n s d rest in
      let R : Shape → Type 0 = λ x. TakesShape names all place expansion deep' left' x d rest in
      subst P (sym levels) (subst Q (sym much) (subst R (sym same) h))

  mutual
    unfolding size_of depth_of Formed NamesBelow

    laid :
        (n deep rest : ℕ) (d : Item) → StandFrom all n (lay names d n).objects → Formed d → NamesBelow (length names) d → HasBytes d → depth_of d ≤ deep
        → TakesShape names all place expansion deep (size_of d + rest) (shape_of all (lay names d n).value) (at_place place d) rest
    laid n deep rest (item q (integer z)) there formed named bytes low =
        of_shape deep deep _ (suc rest) rest (shape.integer z) (shape.integer z) _ refl (omega arith) refl
        (takes_integer deep rest z (formed_tells (item q (integer z)) formed))
    laid n deep rest (item q (character c)) there formed named bytes low =
        of_shape deep deep _ (suc rest) rest (shape.character c) (shape.character c) _ refl (omega arith) refl (takes_character deep rest c bytes)
    laid n deep rest (item q (symbol (Named name))) there formed named bytes low =
        of_shape deep deep _ (suc rest) rest _ (shape.symbol (symbol_of names (Named name))) _ refl (omega arith) refl
        (takes_symbol deep rest _ (Named name) (of_name (text names name.0) name (slice_get-get_or names name.0 [] named)))
    laid n deep rest (item q (symbol (Fresh other serial))) there formed named bytes low =
        of_shape deep deep _ (suc rest) rest _ (shape.symbol (symbol_of names (Fresh other serial))) _ refl (omega arith) refl
        (takes_symbol deep rest _ (Fresh other serial) (of_other_expansion other serial))
    laid n deep rest (item q (string text_bytes)) there formed named bytes low =
        of_shape deep deep _ (suc ((length text_bytes + 3) / 4 + rest)) rest _ (shape.string text_bytes) _ refl (omega arith)
        (ap shape_of_object (made_stands all n [] (object.string text_bytes) there))
        (takes_string deep ((length text_bytes + 3) / 4 + rest) rest text_bytes bytes refl)
    laid n deep rest (item q nil) there formed named bytes low =
        of_shape deep deep _ (suc rest) rest shape.nil shape.nil _ refl (omega arith) refl (takes_nil deep rest)
    laid n deep rest (item q (vector ds)) there formed named bytes low =
        let parts = lay_items names ds n in
        of_shape deep (suc (deep - 1)) _ (suc (sizes_of ds + rest)) rest _ (shape.vector parts.1) _ (omega (arith, low)) (omega arith)
        (ap shape_of_object (made_stands all n parts.0 (object.vector parts.1) there))
        (takes_vector (deep - 1) (sizes_of ds + rest) rest parts.1 (items_at_place place ds)
        (elements_laid n (deep - 1) rest ds (front_stands all n parts.0 (object.vector parts.1 ∷ []) there) formed named bytes (omega (arith, low))))
    laid n deep rest (item q (list no_item t)) there formed named bytes low = absurd (formed.0 refl)
    laid n deep rest (item q (list (item_and d ds) t)) there formed named bytes low =
        let first = lay names d n in
        let others = lay_list names ds (lay_tail names t) (n + length first.objects) in
        let chain =
        chain_laid n (deep - 1) rest (item_and d ds) t (λ m stands. end_laid m (deep - 1) rest t stands formed.2 named.1 bytes.1 (omega (arith, low))) there formed.1 named.0 bytes.0
        (omega (arith, low)) in
        let shape_is : shape_of all (lay_list names (item_and d ds) (lay_tail names t) n).value ≡ shape.cons first.value others.value =
        ap shape_of_object (made_stands all n (first.objects ++ others.objects) (object.cons first.value others.value) there) in
        let P : Shape → Type 0 = λ x. TakesChain names all place expansion (deep - 1) (sizes_of (item_and d ds) + size_of_tail t + rest) x (items_at_place place (item_and d ds)) (tail_at_place place t) rest in
        of_shape deep (suc (deep - 1)) _ (suc (sizes_of (item_and d ds) + size_of_tail t + rest)) rest _ (shape.cons first.value others.value) _ (omega (arith, low)) (omega arith) shape_is
        (takes_list (deep - 1) (sizes_of (item_and d ds) + size_of_tail t + rest) rest first.value others.value (items_at_place place (item_and d ds)) (tail_at_place place t)
        (subst P shape_is chain))

    elements_laid :
        (n deep rest : ℕ) (ds : Items) → StandFrom all n (lay_items names ds n).0 → AllFormed ds → AllNamesBelow (length names) ds → AllHaveBytes ds → depths_of ds ≤ deep
        → TakesElements names all place expansion deep (sizes_of ds + rest) (lay_items names ds n).1 (items_at_place place ds) rest
    elements_laid n deep rest no_item there formed named bytes low =
        let same : 0 + rest ≡ rest = omega arith in
        let P : ℕ → Type 0 = λ k. TakesElements names all place expansion deep k [] no_item rest in
        subst P (sym same) (no_element deep rest)
    elements_laid n deep rest (item_and d ds) there formed named bytes low =
        let first = lay names d n in
        let others = lay_items names ds (n + length first.objects) in
        let here = laid n deep (sizes_of ds + rest) d (front_stands all n first.objects others.0 there) formed.0 named.0 bytes.0 (omega (arith, low)) in
        let further = elements_laid (n + length first.objects) deep rest ds (behind_stand all n first.objects others.0 there) formed.1 named.1 bytes.1 (omega (arith, low)) in
        let same : sizes_of (item_and d ds) + rest ≡ size_of d + (sizes_of ds + rest) = omega arith in
        let P : ℕ → Type 0 = λ k. TakesElements names all place expansion deep k (first.value ∷ others.1) (items_at_place place (item_and d ds)) rest in
        subst P (sym same) (an_element deep (size_of d + (sizes_of ds + rest)) (sizes_of ds + rest) rest first.value others.1 (at_place place d) (items_at_place place ds) here further)

    end_laid :
        (n deep rest : ℕ) (t : Tail) → StandFrom all n (lay_tail names t n).objects → FormedTail t → NamesBelowTail (length names) t → TailHasBytes t
        → depth_of_tail t ≤ deep
        → TakesChain names all place expansion deep (size_of_tail t + rest) (shape_of all (lay_tail names t n).value) no_item (tail_at_place place t) rest
    end_laid n deep rest no_tail there formed named bytes low =
        let same : 0 + rest ≡ rest = omega arith in
        let P : ℕ → Type 0 = λ k. TakesChain names all place expansion deep k shape.nil no_item no_tail rest in
        subst P (sym same) (at_nil deep rest)
    end_laid n deep rest (dotted (item q c)) there formed named bytes low =
        let end = laid n deep rest (item q c) there formed.1 named bytes low in
        at_dot deep (size_of (item q c) + rest) rest _ (at_place place (item q c))
        (shape_no_list deep (size_of (item q c) + rest) _ (at_place place (item q c)) rest end (no_list_placed place c formed.0)) end

    chain_laid :
        (n deep rest : ℕ) (ds : Items) (t : Tail)
        → ((m : ℕ) → StandFrom all m (lay_tail names t m).objects
        → TakesChain names all place expansion deep (size_of_tail t + rest) (shape_of all (lay_tail names t m).value) no_item (tail_at_place place t) rest)
        → StandFrom all n (lay_list names ds (lay_tail names t) n).objects → AllFormed ds → AllNamesBelow (length names) ds → AllHaveBytes ds → depths_of ds ≤ deep
        → TakesChain names all place expansion deep (sizes_of ds + size_of_tail t + rest) (shape_of all (lay_list names ds (lay_tail names t) n).value)
        (items_at_place place ds) (tail_at_place place t) rest
    chain_laid n deep rest no_item t end there formed named bytes low =
        let same : 0 + size_of_tail t + rest ≡ size_of_tail t + rest = omega arith in
        let P : ℕ → Type 0 = λ k. TakesChain names all place expansion deep k (shape_of all (lay_tail names t n).value) no_item (tail_at_place place t) rest in
        subst P (sym same) (end n there)
    chain_laid n deep rest (item_and d ds) t end there formed named bytes low =
        let first = lay names d n in
        let others = lay_list names ds (lay_tail names t) (n + length first.objects) in
        let parts = front_stands all n (first.objects ++ others.objects) (object.cons first.value others.value ∷ []) there in
        let here = laid n deep (sizes_of ds + size_of_tail t + rest) d (front_stands all n first.objects others.objects parts) formed.0 named.0 bytes.0 (omega (arith, low)) in
        let further =
        chain_laid (n + length first.objects) deep rest ds t end (behind_stand all n first.objects others.objects parts) formed.1 named.1 bytes.1 (omega (arith, low)) in
        let same : sizes_of (item_and d ds) + size_of_tail t + rest ≡ size_of d + (sizes_of ds + size_of_tail t + rest) = omega arith in
        let shape_is : shape_of all (lay_list names (item_and d ds) (lay_tail names t) n).value ≡ shape.cons first.value others.value =
        ap shape_of_object (made_stands all n (first.objects ++ others.objects) (object.cons first.value others.value) there) in
        let P : ℕ → Type 0 = λ k. TakesChain names all place expansion deep k (shape_of all (lay_list names (item_and d ds) (lay_tail names t) n).value) (items_at_place place (item_and d ds)) (tail_at_place place t) rest in
        let Q : Shape → Type 0 = λ x. TakesChain names all place expansion deep (size_of d + (sizes_of ds + size_of_tail t + rest)) x (items_at_place place (item_and d ds)) (tail_at_place place t) rest in
        subst P (sym same)
        (subst Q (sym shape_is)
        (at_cons deep (size_of d + (sizes_of ds + size_of_tail t + rest)) (sizes_of ds + size_of_tail t + rest) rest first.value others.value (at_place place d) (items_at_place place ds)
        (tail_at_place place t) here further))

-- objects between others stand from the number of those in front on
between_stand : (before objects after : List Object) → StandFrom (before ++ (objects ++ after)) (length before) objects
between_stand before objects after = record {
  each = λ i o at. behind_at before (objects ++ after) i o (slice_get-front objects after i o at);
}

pub law_of_laid : LawOfLaid
law_of_laid names before after place expansion deep rest d good bytes low =
    laid names (before ++ ((lay names d (length before)).objects ++ after)) place expansion (length before) deep rest d
    (between_stand before (lay names d (length before)).objects after) good.formed good.named bytes low
