-- The tables in front of all forms are the same under every later table of names, and under one table there is one.
use Rattle.std.specs.Prelude.{◌≡◌, ℕ, zero, suc, ◌+◌, ◌<◌, List, [], ◌∷◌, Some, length, map, take, slice_get, refl}
use Rattle.std.proofs.Common.{ap, sym, ◌∙◌, arith}
use Rattle.base.specs.declared.datum.Name.{Name}
use Rattle.base.specs.Names.{IsTable, Extends, text_stays}
use Rattle.lang_meaning.specs.declared.program.ClassRow.{ClassRow}
use Rattle.lang_meaning.specs.declared.program.SlotRow.{SlotRow}
use Rattle.lang_meaning.specs.BuiltIn.{class_texts}
use Rattle.lang_meaning.specs.Objects.{built_in_classes}
use Rattle.lang_classes.specs.InheritedSlots.{names_of, said_by, united}
use Rattle.lang_classes.specs.InheritedClasses.{Hierarchy}
use Rattle.lang_classes.specs.InheritedBuiltIn.{built_in_own, own_initarg, texts_of, SaysSlots, AreBuiltIn}
use Rattle.front_profile.specs.declared.tables.ReservedWords.{ReservedWords}
use Rattle.front_profile.specs.declared.tables.Tables.{Tables}
use Rattle.front_scope.specs.Scopes.{AreWords, first_tables, AreInitialTables}

-- ---- items of lists

some_at : {X : Type 0} (xs : List X) (i : ℕ) → i < length xs → (x : X) × (slice_get xs i ≡ Some x)
some_at [] i h = absurd (omega arith)
some_at (x ∷ xs) zero h = (x, refl)
some_at (x ∷ xs) (suc i) h = some_at xs i (omega arith)

pub below_length : {X : Type 0} (xs : List X) (i : ℕ) (x : X) → slice_get xs i ≡ Some x → i < length xs
below_length [] i x h = absurd (cc)
below_length (y ∷ ys) zero x h = omega arith
below_length (y ∷ ys) (suc i) x h = omega (arith, below_length ys i x h)

same_list : {X : Type 0} (xs ys : List X) → length xs ≡ length ys →
    ((i : ℕ) (x y : X) → slice_get xs i ≡ Some x → slice_get ys i ≡ Some y → x ≡ y) → xs ≡ ys
same_list [] [] e h = refl
same_list [] (y ∷ ys) e h = absurd (omega (arith, e))
same_list (x ∷ xs) [] e h = absurd (omega (arith, e))
same_list (x ∷ xs) (y ∷ ys) e h =
    let first : x ≡ y = h zero x y refl refl in
    let others : xs ≡ ys = same_list xs ys (omega (arith, e)) (λ i a b p q. h (suc i) a b p q) in
    cc

-- ---- later

words_later : (old new : List (List ℕ)) (w : ReservedWords) → Extends old new → AreWords old w → AreWords new w
words_later old new w x a = record {
  truth = text_stays old new _ _ x a.truth;
  rest = text_stays old new _ _ x a.rest;
  and_rest = text_stays old new _ _ x a.and_rest;
}

texts_later : (old new : List (List ℕ)) (ns : List Name) (ts : List (List ℕ)) → Extends old new → texts_of old ns ≡ map (λ t. Some t) ts →
    texts_of new ns ≡ map (λ t. Some t) ts
texts_later old new [] [] x e = refl
texts_later old new [] (t ∷ ts) x e = absurd (cc)
texts_later old new (n ∷ ns) [] x e = absurd (cc)
texts_later old new (n ∷ ns) (t ∷ ts) x e =
    let here : slice_get old n.0 ≡ Some t = cc in
    let others : texts_of old ns ≡ map (λ t. Some t) ts = cc in
    let there : slice_get new n.0 ≡ Some t = text_stays old new n.0 t x here in
    let behind : texts_of new ns ≡ map (λ t. Some t) ts = texts_later old new ns ts x others in
    cc

says_later : (old new : List (List ℕ)) (ts : List (List ℕ)) (slots : List SlotRow) → Extends old new → SaysSlots old ts slots → SaysSlots new ts slots
says_later old new ts slots x s = record { names_are = texts_later old new (names_of slots) ts x s.names_are; slots_are = s.slots_are }

-- the name of a built-in class
class_name : (texts : List (List ℕ)) (h : Hierarchy) (c : ℕ) (row : ClassRow) → AreBuiltIn texts h → slice_get h.rows c ≡ Some row →
    (t : List ℕ) × ((slice_get class_texts c ≡ Some t) × (slice_get texts row.name.0 ≡ Some t))
class_name texts h c row b e =
    let few : c < length class_texts = omega (arith, below_length h.rows c row e, b.number) in
    let there = some_at class_texts c few in
    (there.0, (there.1, b.named.names c row e ∙ there.1))

built_in_later : (old new : List (List ℕ)) (h : Hierarchy) → Extends old new → AreBuiltIn old h → AreBuiltIn new h
built_in_later old new h x b = record {
  hierarchy = b.hierarchy;
  number = b.number;
  named = record {
    names = λ c row e. let n = class_name old h c row b e in text_stays old new row.name.0 n.0 x n.1.1 ∙ sym n.1.0;
    own = λ c slots e. says_later old new (built_in_own c) slots x (b.named.own c slots e);
  };
}

pub first_later : (old new : List (List ℕ)) (t : Tables) → Extends old new → AreInitialTables old t → AreInitialTables new t
first_later old new t x f = record {
  words = words_later old new t.words x f.words;
  classes = built_in_later old new t.classes x f.classes;
  nothing_else = f.nothing_else;
}

-- ---- one

pub same_name : (names : List (List ℕ)) (a b : Name) (t : List ℕ) → IsTable names → slice_get names a.0 ≡ Some t → slice_get names b.0 ≡ Some t → a ≡ b
same_name names a b t table p q =
    let made : ℕ → Name = λ n. record { 0 = n } in
    ap made (table.once a.0 b.0 t p q)

same_words : (names : List (List ℕ)) (v w : ReservedWords) → IsTable names → AreWords names v → AreWords names w → v ≡ w
same_words names v w table a b =
    let truth : v.truth ≡ w.truth = same_name names v.truth w.truth _ table a.truth b.truth in
    let rest : v.rest ≡ w.rest = same_name names v.rest w.rest _ table a.rest b.rest in
    let and_rest : v.and_rest ≡ w.and_rest = same_name names v.and_rest w.and_rest _ table a.and_rest b.and_rest in
    let one : Name → ReservedWords = λ n. record { truth = n; rest = v.rest; and_rest = v.and_rest } in
    let two : Name → ReservedWords = λ n. record { truth = w.truth; rest = n; and_rest = v.and_rest } in
    let three : Name → ReservedWords = λ n. record { truth = w.truth; rest = w.rest; and_rest = n } in
    ap one truth ∙ ap two rest ∙ ap three and_rest

same_names : (texts : List (List ℕ)) (ns ms : List Name) (ts : List (List ℕ)) → IsTable texts → texts_of texts ns ≡ map (λ t. Some t) ts →
    texts_of texts ms ≡ map (λ t. Some t) ts → ns ≡ ms
same_names texts [] [] ts table p q = refl
same_names texts [] (m ∷ ms) [] table p q = absurd (cc)
same_names texts [] (m ∷ ms) (t ∷ ts) table p q = absurd (cc)
same_names texts (n ∷ ns) [] [] table p q = absurd (cc)
same_names texts (n ∷ ns) [] (t ∷ ts) table p q = absurd (cc)
same_names texts (n ∷ ns) (m ∷ ms) [] table p q = absurd (cc)
same_names texts (n ∷ ns) (m ∷ ms) (t ∷ ts) table p q =
    let a : slice_get texts n.0 ≡ Some t = cc in
    let b : slice_get texts m.0 ≡ Some t = cc in
    let c : texts_of texts ns ≡ map (λ t. Some t) ts = cc in
    let d : texts_of texts ms ≡ map (λ t. Some t) ts = cc in
    let first : n ≡ m = same_name texts n m t table a b in
    let others : ns ≡ ms = same_names texts ns ms ts table c d in
    cc

same_slots : (texts : List (List ℕ)) (ts : List (List ℕ)) (xs ys : List SlotRow) → IsTable texts → SaysSlots texts ts xs → SaysSlots texts ts ys → xs ≡ ys
same_slots texts ts xs ys table a b =
    a.slots_are ∙ ap (λ ns. map own_initarg ns) (same_names texts (names_of xs) (names_of ys) ts table a.names_are b.names_are) ∙ sym b.slots_are

same_own : (texts : List (List ℕ)) (h k : Hierarchy) → IsTable texts → AreBuiltIn texts h → AreBuiltIn texts k → h.own ≡ k.own
same_own texts h k table a b =
    same_list h.own k.own (a.hierarchy.classes.paired ∙ a.number ∙ sym b.number ∙ sym b.hierarchy.classes.paired)
    (λ c xs ys p q. same_slots texts (built_in_own c) xs ys table (a.named.own c xs p) (b.named.own c ys q))

same_row : (texts : List (List ℕ)) (h k : Hierarchy) (c : ℕ) (x y : ClassRow) → IsTable texts → AreBuiltIn texts h → AreBuiltIn texts k →
    slice_get h.rows c ≡ Some x → slice_get k.rows c ≡ Some y → x ≡ y
same_row texts h k c x y table a b p q =
    let m = class_name texts h c x a p in
    let n = class_name texts k c y b q in
    let text : m.0 ≡ n.0 = (let both : Some m.0 ≡ Some n.0 = sym m.1.0 ∙ n.1.0 in cc) in
    let name : x.name ≡ y.name = same_name texts x.name y.name n.0 table (m.1.1 ∙ ap (λ t. Some t) text) n.1.1 in
    let few : c < built_in_classes = omega (arith, below_length h.rows c x p, a.number) in
    let i = a.hierarchy.built_in c x few p in
    let j = b.hierarchy.built_in c y few q in
    let precedence : x.precedence ≡ y.precedence = (let both : Some x.precedence ≡ Some y.precedence = sym i.precedence ∙ j.precedence in cc) in
    let slots : x.slots ≡ y.slots =
    (a.hierarchy.classes.right c x p).slots
    ∙ ap (λ own. united (said_by (take (c + 1) own) x.precedence)) (same_own texts h k table a b)
    ∙ ap (λ l. united (said_by (take (c + 1) k.own) l)) precedence
    ∙ sym (b.hierarchy.classes.right c y q).slots in
    let concrete : x.abstract_class ≡ y.abstract_class = i.concrete ∙ sym j.concrete in
    let one : Name → ClassRow = λ v. record { name = v; precedence = x.precedence; slots = x.slots; abstract_class = x.abstract_class } in
    let two : List ℕ → ClassRow = λ v. record { name = y.name; precedence = v; slots = x.slots; abstract_class = x.abstract_class } in
    let three : List SlotRow → ClassRow = λ v. record { name = y.name; precedence = y.precedence; slots = v; abstract_class = x.abstract_class } in
    ap one name ∙ ap two precedence ∙ ap three slots ∙ ap (λ v. record y { abstract_class = v }) concrete

same_classes : (texts : List (List ℕ)) (h k : Hierarchy) → IsTable texts → AreBuiltIn texts h → AreBuiltIn texts k → h ≡ k
same_classes texts h k table a b =
    let rows : h.rows ≡ k.rows = same_list h.rows k.rows (a.number ∙ sym b.number) (λ c x y p q. same_row texts h k c x y table a b p q) in
    let one : List ClassRow → Hierarchy = λ v. record { rows = v; own = h.own } in
    let two : List (List SlotRow) → Hierarchy = λ v. record { rows = k.rows; own = v } in
    ap one rows ∙ ap two (same_own texts h k table a b)

pub one_first : (names : List (List ℕ)) (s t : Tables) → IsTable names → AreInitialTables names s → AreInitialTables names t → s ≡ t
one_first names s t table a b =
    a.nothing_else
    ∙ ap (λ w. first_tables w s.classes) (same_words names s.words t.words table a.words b.words)
    ∙ ap (λ h. first_tables t.words h) (same_classes names s.classes t.classes table a.classes b.classes)
    ∙ sym b.nothing_else
