-- The objects of data are made.
use Rattle.std.proofs.Common.{◌≡◌, ℕ, ◌+◌, List, [], ◌∷◌, ◌++◌, length, map, refl, sym, ◌∙◌, ap, append_assoc, append-nil, add-zero, arith}
use Rattle.std.proofs.lemmas.List.{length-append}
use Rattle.base.specs.Data.{Item, Items, Tail, item, items_of, no_item, item_and, vector, list, no_tail}
use Rattle.base.specs.Data as datum
use Rattle.base.specs.declared.datum.Name.{Name}
use Rattle.base.specs.declared.datum.Symbol.TheVariants.{Named}
use Rattle.lang_meaning.specs.Values.{Value, nil, object, symbol, named}
use Rattle.lang_meaning.specs.Objects.{Object, cons}
use Rattle.lang_meaning.specs.Objects as objects
use Rattle.lang_meaning.specs.State.{no_place}
use Rattle.lang_meaning.specs.Lookup.{text}
use Rattle.lang_meaning.specs.Literals.{Laid, lay, lay_content, lay_items, lay_list, lay_tail}
use Rattle.eval_store.specs.declared.store.Store.{Store}
use Rattle.eval_store.specs.declared.word.Word.{Word}
use Rattle.eval_store.specs.Words.{value_of_word, values_of}
use Rattle.lang_meaning.specs.Recipes.{Recipe, in_turn, single, laid, both}
use Rattle.eval_store.specs.Recipes.{linked, IsMadeBy}
use Rattle.eval_store.specs.Parts.{symbols_of}
use Rattle.eval_store.proofs.Made.{both_made, made_as}

-- data one after another
pub items_in_turn : (names : List (List ℕ)) (ds : List Item) (n : ℕ) → in_turn (λ d. laid (lay names d)) ds n ≡ lay_items names (items_of ds) n
items_in_turn names [] n = refl
items_in_turn names (d ∷ ds) n =
    let first = lay names d n in
    ap (λ (o : List Object × List Value). (first.objects ++ o.0, first.value ∷ o.1)) (items_in_turn names ds (n + length first.objects))

-- a string has no parts
pub text_made : (bytes : List ℕ) {old new : Store} {w : Word} → IsMadeBy value_of_word (λ names. single (objects.string bytes)) old new w
    → IsMadeBy value_of_word (λ names. laid (lay_content names (datum.string bytes))) old new w
text_made bytes {old} {new} {w} p =
    made_as (record { objects = λ names n same. refl; stands = λ names n same. same ∙ ap object (sym (add-zero n)) }) p

-- a vector is made after its elements
pub vector_made : (ds : List Item) {old mid new : Store} {ws : List Word} {w : Word}
    → IsMadeBy values_of (λ names. in_turn (λ d. laid (lay names d)) ds) old mid ws
    → IsMadeBy value_of_word (λ names. single (objects.vector (values_of names ws))) mid new w
    → IsMadeBy value_of_word (λ names. laid (lay_content names (vector (items_of ds)))) old new w
vector_made ds {old} {mid} {new} {ws} {w} p q =
    made_as
    (record {
      objects = λ names n same.
          ap (λ vs. (in_turn (λ d. laid (lay names d)) ds n).0 ++ objects.vector vs ∷ []) (ap (λ v. v.0) same)
          ∙ ap (λ (parts : List Object × List Value). parts.0 ++ objects.vector parts.1 ∷ []) (items_in_turn names ds n);
      stands = λ names n same. ap (λ v. v.1) same ∙ ap (λ (parts : List Object × List Value). object (n + length parts.0)) (items_in_turn names ds n);
    })
    (both_made p q)

-- a list is its items, its end, and then conses of these
abbrev pub in_line : (items : Recipe (List Value)) (end : ℕ → Laid) → Recipe Value
in_line items end n =
    let first = items n in
    let last = end (n + length first.0) in
    let conses = linked first.1 last.value (n + length (first.0 ++ last.objects)) in
    (first.0 ++ last.objects ++ conses.0, conses.1)

line_step : (fs is es ls : List Object) (c : Object) → (fs ++ (is ++ es ++ ls)) ++ c ∷ [] ≡ (fs ++ is) ++ es ++ (ls ++ c ∷ [])
line_step fs is es ls c =
    append_assoc fs (is ++ es ++ ls) (c ∷ [])
    ∙ ap (λ os. fs ++ os) (append_assoc (is ++ es) ls (c ∷ []) ∙ append_assoc is es (ls ++ c ∷ []))
    ∙ sym (append_assoc fs is (es ++ (ls ++ c ∷ [])))
    ∙ sym (append_assoc (fs ++ is) es (ls ++ c ∷ []))

line_count : (n : ℕ) (fs is es ls : List Object) → n + length (fs ++ (is ++ es ++ ls)) ≡ n + length ((fs ++ is) ++ es) + length ls
line_count n fs is es ls =
    omega (arith, length-append fs (is ++ es ++ ls), length-append (is ++ es) ls, length-append is es, length-append (fs ++ is) es, length-append fs is)

line_same : (n : ℕ) (fs is es ls : List Object) (c : Object) (P : List Object → ℕ → List Object × Value)
    → P ((fs ++ (is ++ es ++ ls)) ++ c ∷ []) (n + length (fs ++ (is ++ es ++ ls))) ≡ P ((fs ++ is) ++ es ++ (ls ++ c ∷ [])) (n + length ((fs ++ is) ++ es) + length ls)
line_same n fs is es ls c P =
    ap (λ os. P os (n + length (fs ++ (is ++ es ++ ls)))) (line_step fs is es ls c)
    ∙ ap (λ k. P ((fs ++ is) ++ es ++ (ls ++ c ∷ [])) k) (line_count n fs is es ls)

-- the first cons of a list, behind what its item and the others make
abbrev consed : List Object → Value → ℕ → List Object × Value → List Object × Value
consed fs v n others = ((fs ++ others.0) ++ cons v others.1 ∷ [], object (n + length (fs ++ others.0)))

line_more : (fs : List Object) (fv : Value) (is : List Object) (vs : List Value) (end : ℕ → Laid) (n : ℕ)
    → consed fs fv n (in_line (λ k. (is, vs)) end (n + length fs)) ≡ in_line (λ k. (fs ++ is, fv ∷ vs)) end n
line_more fs fv is vs end n =
    let first : n + length fs + length is ≡ n + length (fs ++ is) = omega (arith, length-append fs is) in
    rw first
    (let e = end (n + length (fs ++ is)) in
    let last : n + length fs + length (is ++ e.objects) ≡ n + length ((fs ++ is) ++ e.objects) =
    omega (arith, length-append is e.objects, length-append (fs ++ is) e.objects, length-append fs is) in
    rw last
    (let l = linked vs e.value (n + length ((fs ++ is) ++ e.objects)) in
    line_same n fs is e.objects l.0 (cons fv l.1) (λ os k. (os, object k))))

pub list_in_line : (names : List (List ℕ)) (ds : List Item) (end : ℕ → Laid) (n : ℕ)
    → laid (lay_list names (items_of ds) end) n ≡ in_line (in_turn (λ d. laid (lay names d)) ds) end n
list_in_line names [] end n =
    let same : n + 0 ≡ n = add-zero n in
    rw same (ap (λ os. (os, (end n).value)) (sym (append-nil (end n).objects)))
list_in_line names (d ∷ ds) end n =
    let first = lay names d n in
    let others = in_turn (λ d. laid (lay names d)) ds (n + length first.objects) in
    ap (consed first.objects first.value n) (list_in_line names ds end (n + length first.objects))
    ∙ line_more first.objects first.value others.0 others.1 end n

-- a list is made of its items, its end, and conses of their words
pub list_made : (ds : List Item) (t : Tail) {old mid next new : Store} {ws : List Word} {e w : Word}
    → IsMadeBy values_of (λ names. in_turn (λ d. laid (lay names d)) ds) old mid ws
    → IsMadeBy value_of_word (λ names. laid (lay_tail names t)) mid next e
    → IsMadeBy value_of_word (λ names. linked (values_of names ws) (value_of_word names e)) next new w
    → IsMadeBy value_of_word (λ names. laid (lay_content names (list (items_of ds) t))) old new w
list_made ds t {old} {mid} {next} {new} {ws} {e} {w} p q r =
    made_as
    (record {
      objects = λ names n same.
          ap (λ (v : (List Value × Value) × Value). let parts = both (in_turn (λ d. laid (lay names d)) ds) (laid (lay_tail names t)) n in parts.0 ++ (linked v.0.0 v.0.1 (n + length parts.0)).0) same
          ∙ ap (λ v. v.0) (sym (list_in_line names ds (lay_tail names t) n));
      stands = λ names n same.
          ap (λ (v : (List Value × Value) × Value). v.1) same
          ∙ ap (λ (v : (List Value × Value) × Value). let parts = both (in_turn (λ d. laid (lay names d)) ds) (laid (lay_tail names t)) n in (linked v.0.0 v.0.1 (n + length parts.0)).1) same
          ∙ ap (λ v. v.1) (sym (list_in_line names ds (lay_tail names t) n));
    })
    (both_made (both_made p q) r)

-- the list of initargs is conses of symbols
pub symbols_linked : (names : List (List ℕ)) (ns : List Name) (n : ℕ)
    → laid (lay_list names (items_of (map (λ a. item no_place (datum.symbol (Named a))) ns)) (lay_tail names no_tail)) n ≡ linked (symbols_of names ns) nil n
symbols_linked names [] n = refl
symbols_linked names (a ∷ ns) n =
    let same : n + 0 ≡ n = add-zero n in
    rw same
    (ap (λ (o : List Object × Value). (o.0 ++ cons (symbol (named (text names a.0))) o.1 ∷ [], object (n + length o.0))) (symbols_linked names ns n))
