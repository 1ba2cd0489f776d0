-- Data are laid one after another; a list is its items, its end and its conses.
use Rattle.std.proofs.Common.{◌≡◌, ℕ, ◌+◌, ◌≤◌, List, [], ◌∷◌, ◌++◌, length, take, drop, Some, refl, sym, ◌∙◌, ap, subst, append_assoc, append-nil, add-zero, length-append, arith}
use Rattle.std.specs.Prelude.{slice_get}
use Rattle.std.proofs.lemmas.List.{drop_all, take_all}
use Rattle.base.specs.Data.{Item, Tail, items_of, no_item, list}
use Rattle.base.specs.DataMeasures.{size_of, sizes_of}
use Rattle.base.specs.model.DataRest.{take_at, items_at}
use Rattle.lang_meaning.specs.declared.program.ProgramRows.{ProgramRows}
use Rattle.lang_meaning.specs.Values.{Value, object}
use Rattle.lang_meaning.specs.Objects.{Object, cons}
use Rattle.lang_meaning.specs.Literals.{Laid, after_parts, lay, lay_content, lay_items, lay_list, lay_tail}
use Rattle.mid_arena.specs.Places.{Places, word_of, WordsOf}
use Rattle.mid_arena.proofs.Keeping.{words_extended}
use Rattle.mid_start.specs.declared.words.ArenaWords.{ArenaWords}
use Rattle.mid_start.specs.LaidWell.{LaidWell}
use Rattle.mid_start.specs.Laying.{LaidThere, AllLaidThere, Lays, LaysAll, conses, LaysConses}
use Rattle.mid_start.proofs.Joining.{longer_same, longer_both, extends_longer}

-- ---- data one after another

-- one more behind others
abbrev pub and_one : List Object × List Value → Laid → List Object × List Value
and_one others one = (others.0 ++ one.objects, others.1 ++ one.value ∷ [])

pub items_and_one :
    (names : List (List ℕ)) (ds : List Item) (d : Item) (n : ℕ)
    → lay_items names (items_of (ds ++ d ∷ [])) n
    ≡ and_one (lay_items names (items_of ds) n) (lay names d (n + length (lay_items names (items_of ds) n).0))
items_and_one names [] d n =
    let same : n + 0 ≡ n = add-zero n in
    rw same (ap (λ os. (os, (lay names d n).value ∷ [])) (append-nil (lay names d n).objects))
items_and_one names (x ∷ xs) d n =
    let first = lay names x n in
    let others = lay_items names (items_of xs) (n + length first.objects) in
    let count : n + length (first.objects ++ others.0) ≡ n + length first.objects + length others.0 = omega (arith, length-append first.objects others.0) in
    rw count
    (ap (λ (o : List Object × List Value). (first.objects ++ o.0, first.value ∷ o.1)) (items_and_one names xs d (n + length first.objects))
    ∙ ap (λ os. (os, first.value ∷ others.1 ++ (lay names d (n + length first.objects + length others.0)).value ∷ []))
    (sym (append_assoc first.objects others.0 (lay names d (n + length first.objects + length others.0)).objects)))

-- one more word
pub words_and_one :
    (places : Places) (vs : List Value) (ws : List ℕ) (v : Value) (w : ℕ) → WordsOf places vs ws → word_of places v ≡ Some w
    → WordsOf places (vs ++ v ∷ []) (ws ++ w ∷ [])
words_and_one places [] [] v w all e = (e, tt)
words_and_one places [] (u ∷ us) v w all e = absurd all
words_and_one places (x ∷ xs) [] v w all e = absurd all
words_and_one places (x ∷ xs) (u ∷ us) v w all e = (all.0, words_and_one places xs us v w all.1 e)

pub no_items_laid : (names : List (List ℕ)) (words : ArenaWords) → LaysAll names (lay_items names no_item) words words []
no_items_laid names words = record {
  there = λ program places store h. record { places_after = places; longer = longer_same places; stands = rw (append-nil store) h; of_values = tt };
}

pub item_more :
    (names : List (List ℕ)) (ds : List Item) (at : ℕ) (d : Item) (old mid new : ArenaWords) (ws : List ℕ) (w : ℕ) → slice_get ds at ≡ Some d
    → LaysAll names (lay_items names (items_of (take at ds))) old mid ws → Lays names (lay names d) mid new w
    → LaysAll names (lay_items names (items_of (take (at + 1) ds))) old new (ws ++ w ∷ [])
item_more names ds at d old mid new ws w found first next = record { there = by }
  where
    by : (program : ProgramRows) (places : Places) (store : List Object) → LaidWell names program places store old
        → AllLaidThere names program places store new (lay_items names (items_of (take (at + 1) ds)) (length store)) (ws ++ w ∷ [])
    by program places store h =
        let a = lay_items names (items_of (take at ds)) (length store) in
        let it = first.there program places store h in
        let count : length (store ++ a.0) ≡ length store + length a.0 = length-append store a.0 in
        let one = rw count at (next.there program it.places_after (store ++ a.0) it.stands) in
        let l = lay names d (length store + length a.0) in
        let together : AllLaidThere names program places store new (and_one a l) (ws ++ w ∷ []) =
        record {
          places_after = one.places_after;
          longer = longer_both places it.places_after one.places_after it.longer one.longer;
          stands = rw (← append_assoc store a.0 l.objects) one.stands;
          of_values =
              words_and_one one.places_after a.1 ws l.value w
              (words_extended it.places_after one.places_after (extends_longer it.places_after one.places_after one.longer) a.1 ws it.of_values) one.of_value;
        } in
        subst (λ laid. AllLaidThere names program places store new laid (ws ++ w ∷ []))
        (sym (ap (λ xs. lay_items names (items_of xs) (length store)) (take_at ds at d found) ∙ items_and_one names (take at ds) d (length store)))
        together

-- when all are passed
pub items_done :
    (names : List (List ℕ)) (ds : List Item) (at : ℕ) (old new : ArenaWords) (ws : List ℕ) → length ds ≤ at
    → LaysAll names (lay_items names (items_of (take at ds))) old new ws → LaysAll names (lay_items names (items_of ds)) old new ws
items_done names ds at old new ws past laid = subst (λ xs. LaysAll names (lay_items names (items_of xs)) old new ws) (take_all at ds past) laid

-- ---- sizes

pub sizes_at : (ds : List Item) (i : ℕ) (d : Item) → slice_get ds i ≡ Some d
    → sizes_of (items_of (drop i ds)) ≡ size_of d + sizes_of (items_of (drop (i + 1) ds))
unfolding sizes_of
sizes_at ds i d h = ap sizes_of (items_at ds i d h)

pub sizes_end : (ds : List Item) (i : ℕ) → length ds ≤ i → sizes_of (items_of (drop i ds)) ≡ 0
unfolding sizes_of
sizes_end ds i h = rw (drop_all i ds h) refl

-- ---- a list is its items, its end, and then conses of these

abbrev pub in_line : (items : ℕ → List Object × List Value) (end : ℕ → Laid) → ℕ → Laid
in_line items end n =
    let first = items n in
    let last = end (n + length first.0) in
    let links = conses first.1 last.value (n + length (first.0 ++ last.objects)) in
    record { objects = first.0 ++ last.objects ++ links.objects; value = links.value }

line_step : (fs is es ls : List Object) (c : Object) → (fs ++ (is ++ es ++ ls)) ++ c ∷ [] ≡ (fs ++ is) ++ es ++ (ls ++ c ∷ [])
line_step fs is es ls c =
    append_assoc fs (is ++ es ++ ls) (c ∷ [])
    ∙ ap (λ os. fs ++ os) (append_assoc (is ++ es) ls (c ∷ []) ∙ append_assoc is es (ls ++ c ∷ []))
    ∙ sym (append_assoc fs is (es ++ (ls ++ c ∷ [])))
    ∙ sym (append_assoc (fs ++ is) es (ls ++ c ∷ []))

line_count : (n : ℕ) (fs is es ls : List Object) → n + length (fs ++ (is ++ es ++ ls)) ≡ n + length ((fs ++ is) ++ es) + length ls
line_count n fs is es ls =
    omega (arith, length-append fs (is ++ es ++ ls), length-append (is ++ es) ls, length-append is es, length-append (fs ++ is) es, length-append fs is)

abbrev pub laid_as : List Object → ℕ → Laid
laid_as os k = record { objects = os; value = object k }

line_same : (n : ℕ) (fs is es ls : List Object) (c : Object)
    → laid_as ((fs ++ (is ++ es ++ ls)) ++ c ∷ []) (n + length (fs ++ (is ++ es ++ ls))) ≡ laid_as ((fs ++ is) ++ es ++ (ls ++ c ∷ [])) (n + length ((fs ++ is) ++ es) + length ls)
line_same n fs is es ls c =
    ap (λ os. laid_as os (n + length (fs ++ (is ++ es ++ ls)))) (line_step fs is es ls c)
    ∙ ap (λ k. laid_as ((fs ++ is) ++ es ++ (ls ++ c ∷ [])) k) (line_count n fs is es ls)

-- the first cons of a list, behind what its item and the others make
abbrev pub consed : List Object → Value → ℕ → Laid → Laid
consed fs v n others = after_parts n (fs ++ others.objects) (cons v others.value)

line_more : (fs : List Object) (fv : Value) (is : List Object) (vs : List Value) (end : ℕ → Laid) (n : ℕ)
    → consed fs fv n (in_line (λ k. (is, vs)) end (n + length fs)) ≡ in_line (λ k. (fs ++ is, fv ∷ vs)) end n
line_more fs fv is vs end n =
    let first : n + length fs + length is ≡ n + length (fs ++ is) = omega (arith, length-append fs is) in
    rw first
    (let e = end (n + length (fs ++ is)) in
    let last : n + length fs + length (is ++ e.objects) ≡ n + length ((fs ++ is) ++ e.objects) =
    omega (arith, length-append is e.objects, length-append (fs ++ is) e.objects, length-append fs is) in
    rw last
    (let l = conses vs e.value (n + length ((fs ++ is) ++ e.objects)) in
    line_same n fs is e.objects l.objects (cons fv l.value)))

pub list_in_line : (names : List (List ℕ)) (ds : List Item) (end : ℕ → Laid) (n : ℕ)
    → lay_list names (items_of ds) end n ≡ in_line (lay_items names (items_of ds)) end n
list_in_line names [] end n =
    let same : n + 0 ≡ n = add-zero n in
    rw same (ap (λ os. record { objects = os; value = (end n).value }) (sym (append-nil (end n).objects)))
list_in_line names (d ∷ ds) end n =
    let first = lay names d n in
    let others = lay_items names (items_of ds) (n + length first.objects) in
    ap (consed first.objects first.value n) (list_in_line names ds end (n + length first.objects))
    ∙ line_more first.objects first.value others.0 others.1 end n

pub list_laid :
    (names : List (List ℕ)) (ds : List Item) (t : Tail) (old mid next new : ArenaWords) (ws : List ℕ) (e w : ℕ)
    → LaysAll names (lay_items names (items_of ds)) old mid ws → Lays names (lay_tail names t) mid next e → LaysConses ws e next new w
    → Lays names (lay_content names (list (items_of ds) t)) old new w
list_laid names ds t old mid next new ws e w items tail links = record { there = by }
  where
    by : (program : ProgramRows) (places : Places) (store : List Object) → LaidWell names program places store old
        → LaidThere names program places store new (lay_list names (items_of ds) (lay_tail names t) (length store)) w
    by program places store h =
        let a = lay_items names (items_of ds) (length store) in
        let it = items.there program places store h in
        let count : length (store ++ a.0) ≡ length store + length a.0 = length-append store a.0 in
        let last = rw count at (tail.there program it.places_after (store ++ a.0) it.stands) in
        let b = lay_tail names t (length store + length a.0) in
        let all : length ((store ++ a.0) ++ b.objects) ≡ length store + length (a.0 ++ b.objects) =
        omega (arith, length-append (store ++ a.0) b.objects, length-append store a.0, length-append a.0 b.objects) in
        let linked = rw all at
        (links.there names program last.places_after ((store ++ a.0) ++ b.objects) a.1 b.value last.stands
        (words_extended it.places_after last.places_after (extends_longer it.places_after last.places_after last.longer) a.1 ws it.of_values) last.of_value) in
        let c = conses a.1 b.value (length store + length (a.0 ++ b.objects)) in
        let together : LaidThere names program places store new (in_line (lay_items names (items_of ds)) (lay_tail names t) (length store)) w =
        record {
          places_after = linked.places_after;
          longer =
              longer_both places last.places_after linked.places_after (longer_both places it.places_after last.places_after it.longer last.longer)
              linked.longer;
          stands =
              rw (← append_assoc store (a.0 ++ b.objects) c.objects, ← append_assoc store a.0 b.objects) linked.stands;
          of_value = linked.of_value;
        } in
        subst (λ laid. LaidThere names program places store new laid w) (sym (list_in_line names ds (lay_tail names t) (length store))) together
