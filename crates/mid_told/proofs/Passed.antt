-- What is written so far of a vector or of a list: whatever the rest comes to, the whole comes to that behind it.
use Rattle.std.proofs.Common.{◌≡◌, ℕ, suc, ◌+◌, ◌<◌, ◌≤◌, List, [], ◌∷◌, ◌++◌, length, drop, Some, sym, ap, subst, ◌∙◌, append_assoc, arith}
use Rattle.std.specs.Prelude.{slice_index_or, codes}
use Rattle.std.proofs.lemmas.Option.{slice_get-get_or}
use Rattle.std.proofs.lemmas.List.{append-nil, drop_all}
use Rattle.base.specs.model.DataRest.{rest_at}
use Rattle.lang_meaning.specs.declared.program.ClassRow.{ClassRow}
use Rattle.lang_meaning.specs.Values.{Value, nil}
use Rattle.lang_meaning.specs.State as meaning
use Rattle.mid_arena.specs.Places.{word_of}
use Rattle.lang_taken.specs.Shapes.{Shape, shape_of}
use Rattle.lang_taken.specs.Shapes as shape
use Rattle.lang_told.specs.Written.{blank, Writes, writes_vector, writes_list, WritesElements, no_element, an_element, WritesChain, at_nil, at_cons, at_dot}
use Rattle.lang_told.specs.Written.{IsUnwritten, in_vector, in_list, AreUnwritten, in_element, behind_element, IsUnwrittenChain, in_car, in_cdr, behind_dot}
use Rattle.mid_told.specs.declared.parts.Part.{Part}
use Rattle.mid_told.specs.declared.parts.Part.TheVariants.{Vector, Nil, Cons}
use Rattle.mid_told.specs.Reading.{read_at}
use Rattle.mid_told.specs.Stands.{Stands}
use Rattle.mid_told.specs.Parts.{IsPart, IsCons, ValuesIn, part_in}
use Rattle.mid_told.specs.Writing.{PartWritten, PartUnwritten, WordWritten, WordUnwritten}
use Rattle.mid_told.proofs.Reading.{word_is}
use Rattle.mid_told.proofs.Found.{part_told}
use Rattle.mid_told.proofs.Writes.{no_list}

-- ---- texts

-- one text more behind a gap
more_text : (opened text gap more after with_gap now : List ℕ) → after ≡ opened ++ text → with_gap ≡ after ++ gap → now ≡ with_gap ++ more → now ≡ opened ++ (text ++ (gap ++ more))
more_text opened text gap more after with_gap now a b c = c ∙ ap (λ x. x ++ more) (b ∙ ap (λ x. x ++ gap) a) ∙ simp append_assoc

regrouped : (text gap more texts : List ℕ) → text ++ (gap ++ (more ++ texts)) ≡ (text ++ (gap ++ more)) ++ texts
regrouped text gap more texts = simp append_assoc

-- an end behind all
closed_text :
    (before opener opened text after end now : List ℕ) → opened ≡ before ++ opener → after ≡ opened ++ text → now ≡ after ++ end
    → now ≡ before ++ (opener ++ (text ++ end))
closed_text before opener opened text after end now a b c = c ∙ ap (λ x. x ++ end) (b ∙ ap (λ x. x ++ text) a) ∙ simp append_assoc

-- ---- elements

pub record ElementsPassed (words : List ℕ) (at count left_before : ℕ) (opened gap after : List ℕ) (k left : ℕ) : Type 0 where
  pub text : List ℕ
  pub appended : after ≡ opened ++ text
  pub written :
      (names : List (List ℕ)) (classes : List ClassRow) (z : meaning.State) (m : Stands names classes z words) (vs : List Value) → length vs ≡ count
      → ValuesIn m.places words at vs → (texts : List ℕ) (rest : ℕ) → WritesElements z.store gap left (drop k vs) texts rest
      → WritesElements z.store [] left_before vs (text ++ texts) rest
  pub unwritten :
      (names : List (List ℕ)) (classes : List ClassRow) (z : meaning.State) (m : Stands names classes z words) (vs : List Value) → length vs ≡ count
      → ValuesIn m.places words at vs → AreUnwritten z.store left (drop k vs) → AreUnwritten z.store left_before vs

pub none_passed : (words : List ℕ) (at count left : ℕ) (opened : List ℕ) → ElementsPassed words at count left opened [] opened 0 left
none_passed words at count left opened = record {
  text = [];
  appended = sym (append-nil opened);
  written = λ names classes z m vs n there texts rest h. h;
  unwritten = λ names classes z m vs n there h. h;
}

module _
    (words : List ℕ) (at count left_before : ℕ) (opened gap after : List ℕ) (k left : ℕ) (p : ElementsPassed words at count left_before opened gap after k left)
    (below : k < count) (word : ℕ) (read : word ≡ read_at words (at + k))
  where
    -- an element, and those behind it
    here : (vs : List Value) → length vs ≡ count → drop k vs ≡ slice_index_or vs k nil ∷ drop (k + 1) vs
    here vs n = rest_at vs k (slice_index_or vs k nil) (slice_get-get_or vs k nil (omega (arith, n, below)))

    -- its word
    its_word :
        (names : List (List ℕ)) (classes : List ClassRow) (z : meaning.State) (m : Stands names classes z words) (vs : List Value) → length vs ≡ count
        → ValuesIn m.places words at vs → word_of m.places (slice_index_or vs k nil) ≡ Some word
    its_word names classes z m vs n there =
        word_is names classes z words m (at + k) (slice_index_or vs k nil) (there.each k (omega (arith, n, below))) ∙ ap (λ w. Some w) (sym read)

    pub element_passed :
        (with_gap now : List ℕ) (rest : ℕ) → with_gap ≡ after ++ gap → WordWritten words word left with_gap now rest
        → ElementsPassed words at count left_before opened blank now (k + 1) rest
    element_passed with_gap now middle gapped w = record {
      text = p.text ++ (gap ++ w.text);
      appended = more_text opened p.text gap w.text after with_gap now p.appended gapped w.appended;
      written = λ names classes z m vs n there texts rest h.
          let v : Value = slice_index_or vs k nil in
          let first = w.there names classes z m v (its_word names classes z m vs n there) in
          let P : List Value → Type 0 = λ us. WritesElements z.store gap left us (gap ++ (w.text ++ texts)) rest in
          let both : P (drop k vs) = subst P (sym (here vs n)) (an_element gap left middle rest v (drop (k + 1) vs) w.text texts first h) in
          let Q : List ℕ → Type 0 = λ x. WritesElements z.store [] left_before vs x rest in
          subst Q (regrouped p.text gap w.text texts) (p.written names classes z m vs n there (gap ++ (w.text ++ texts)) rest both);
      unwritten = λ names classes z m vs n there h.
          let v : Value = slice_index_or vs k nil in
          let first = w.there names classes z m v (its_word names classes z m vs n there) in
          let P : List Value → Type 0 = λ us. AreUnwritten z.store left us in
          p.unwritten names classes z m vs n there (subst P (sym (here vs n)) (behind_element left middle v (drop (k + 1) vs) w.text first h));
    }

    -- one that is not written
    pub element_unwritten : WordUnwritten words word left → PartUnwritten words (Vector at count) (1 + left_before)
    element_unwritten w = record {
      there = λ names classes z m s h.
          let vs : List Value = h.values in
          let v : Value = slice_index_or vs k nil in
          let P : List Value → Type 0 = λ us. AreUnwritten z.store left us in
          let one : AreUnwritten z.store left_before vs =
          p.unwritten names classes z m vs h.count_is h.there
          (subst P (sym (here vs h.count_is)) (in_element left v (drop (k + 1) vs) (w.there names classes z m v (its_word names classes z m vs h.count_is h.there)))) in
          let more : suc left_before ≡ 1 + left_before = omega arith in
          let Q : Shape → Type 0 = λ x. IsUnwritten z.store (suc left_before) x in
          let R : ℕ → Type 0 = λ n. IsUnwritten z.store n s in
          subst R more (subst Q (sym h.shape_is) (in_vector left_before vs one));
    }

pub vector_written :
    (words : List ℕ) (at count left : ℕ) (before opened gap after now : List ℕ) (k rest : ℕ) → count ≤ k → opened ≡ before ++ codes "#("
    → ElementsPassed words at count left opened gap after k rest → now ≡ after ++ codes ")"
    → PartWritten words (Vector at count) (1 + left) before now rest
vector_written words at count left before opened gap after now k rest all opens p closes = record {
  text = codes "#(" ++ (p.text ++ codes ")");
  appended = closed_text before (codes "#(") opened p.text after (codes ")") now opens p.appended closes;
  there = λ names classes z m s h.
      let vs : List Value = h.values in
      let none : drop k vs ≡ [] = drop_all k vs (omega (arith, all, h.count_is)) in
      let P : List Value → Type 0 = λ us. WritesElements z.store gap rest us [] rest in
      let elements : WritesElements z.store [] left vs (p.text ++ []) rest =
      p.written names classes z m vs h.count_is h.there [] rest (subst P (sym none) (no_element gap rest)) in
      let Q : List ℕ → Type 0 = λ x. WritesElements z.store [] left vs x rest in
      let more : suc left ≡ 1 + left = omega arith in
      let text : List ℕ = codes "#(" ++ (p.text ++ codes ")") in
      let S : Shape → Type 0 = λ x. Writes z.store (suc left) x text rest in
      let R : ℕ → Type 0 = λ n. Writes z.store n s text rest in
      subst R more (subst S (sym h.shape_is) (writes_vector left rest vs p.text (subst Q (append-nil p.text) elements)));
}

-- ---- chains of conses

-- what the first cons comes to, by what comes at a later part of the chain
pub record Onward
    (words : List ℕ) (names : List (List ℕ)) (classes : List ClassRow) (z : meaning.State) (m : Stands names classes z words) (left_before : ℕ) (first : Shape)
    (text gap : List ℕ) (one : Part) (left : ℕ) : Type 0 where
  pub shape : Shape
  pub is_part : IsPart m.places words shape one
  pub written :
      (texts : List ℕ) (rest : ℕ) → WritesChain z.store gap left shape texts rest → WritesChain z.store [] left_before first (text ++ texts) rest
  pub unwritten : IsUnwrittenChain z.store left shape → IsUnwrittenChain z.store left_before first

pub record ChainPassed (words : List ℕ) (whole : Part) (left_before : ℕ) (opened gap after : List ℕ) (one : Part) (left : ℕ) : Type 0 where
  pub text : List ℕ
  pub appended : after ≡ opened ++ text
  pub there :
      (names : List (List ℕ)) (classes : List ClassRow) (z : meaning.State) (m : Stands names classes z words) (first : Shape)
      → IsPart m.places words first whole → Onward words names classes z m left_before first text gap one left

pub chain_begins : (words : List ℕ) (whole : Part) (left : ℕ) (opened : List ℕ) → ChainPassed words whole left opened [] opened whole left
chain_begins words whole left opened = record {
  text = [];
  appended = sym (append-nil opened);
  there = λ names classes z m first h. record { shape = first; is_part = h; written = λ texts rest x. x; unwritten = λ x. x };
}

module _
    (words : List ℕ) (whole : Part) (left_before : ℕ) (opened gap after : List ℕ) (car cdr left : ℕ)
    (p : ChainPassed words whole left_before opened gap after (Cons car cdr) left)
  where
    cons_passed :
        (with_gap now : List ℕ) (middle : ℕ) (one : Part) (w : WordWritten words car left with_gap now middle) → one ≡ part_in words cdr
        → (names : List (List ℕ)) (classes : List ClassRow) (z : meaning.State) (m : Stands names classes z words) (first s : Shape)
        → IsCons m.places car cdr s
        → ((texts : List ℕ) (rest : ℕ) → WritesChain z.store gap left s texts rest → WritesChain z.store [] left_before first (p.text ++ texts) rest)
        → (IsUnwrittenChain z.store left s → IsUnwrittenChain z.store left_before first)
        → Onward words names classes z m left_before first (p.text ++ (gap ++ w.text)) blank one middle
    cons_passed with_gap now middle one w is names classes z m first s it writes fails = record {
      shape = shape_of z.store it.second;
      is_part =
          subst (λ q. IsPart m.places words (shape_of z.store it.second) q) (sym is) (part_told names classes z words m it.second cdr it.cdr_is);
      written = λ texts rest h.
          let P : Shape → Type 0 = λ x. WritesChain z.store gap left x (gap ++ (w.text ++ texts)) rest in
          let here : P s =
          subst P (sym it.shape_is)
          (at_cons gap left middle rest it.first it.second w.text texts (w.there names classes z m it.first it.car_is) h) in
          let Q : List ℕ → Type 0 = λ x. WritesChain z.store [] left_before first x rest in
          subst Q (regrouped p.text gap w.text texts) (writes (gap ++ (w.text ++ texts)) rest here);
      unwritten = λ h.
          let P : Shape → Type 0 = λ x. IsUnwrittenChain z.store left x in
          fails (subst P (sym it.shape_is) (in_cdr left middle it.first it.second w.text (w.there names classes z m it.first it.car_is) h));
    }

    pub chain_goes_on :
        (with_gap now : List ℕ) (middle : ℕ) (one : Part) → with_gap ≡ after ++ gap → WordWritten words car left with_gap now middle
        → one ≡ part_in words cdr → ChainPassed words whole left_before opened blank now one middle
    chain_goes_on with_gap now middle one gapped w is = record {
      text = p.text ++ (gap ++ w.text);
      appended = more_text opened p.text gap w.text after with_gap now p.appended gapped w.appended;
      there = λ names classes z m first h.
          let o = p.there names classes z m first h in
          cons_passed with_gap now middle one w is names classes z m first o.shape o.is_part o.written o.unwritten;
    }

-- a list of which the chain is not written
list_unwritten :
    (words : List ℕ) (car cdr left : ℕ)
    → ((names : List (List ℕ)) (classes : List ClassRow) (z : meaning.State) (m : Stands names classes z words) (s : Shape) → IsCons m.places car cdr s
    → IsUnwrittenChain z.store left s) → PartUnwritten words (Cons car cdr) (1 + left)
list_unwritten words car cdr left fails = record {
  there = λ names classes z m s h.
      let P : Shape → Type 0 = λ x. IsUnwrittenChain z.store left x in
      let more : suc left ≡ 1 + left = omega arith in
      let Q : Shape → Type 0 = λ x. IsUnwritten z.store (suc left) x in
      let R : ℕ → Type 0 = λ n. IsUnwritten z.store n s in
      subst R more (subst Q (sym h.shape_is) (in_list left h.first h.second (subst P h.shape_is (fails names classes z m s h))));
}

-- an element that is not written
pub item_unwritten :
    (words : List ℕ) (car cdr left_before : ℕ) (opened gap after : List ℕ) (first second left : ℕ)
    → ChainPassed words (Cons car cdr) left_before opened gap after (Cons first second) left → WordUnwritten words first left
    → PartUnwritten words (Cons car cdr) (1 + left_before)
item_unwritten words car cdr left_before opened gap after first second left p w =
    list_unwritten words car cdr left_before
    (λ names classes z m s h.
    let o = p.there names classes z m s h in
    let it : IsCons m.places first second o.shape = o.is_part in
    let P : Shape → Type 0 = λ x. IsUnwrittenChain z.store left x in
    o.unwritten (subst P (sym it.shape_is) (in_car left it.first it.second (w.there names classes z m it.first it.car_is))))

-- an end that is not written
pub end_unwritten :
    (words : List ℕ) (car cdr left_before : ℕ) (opened gap after : List ℕ) (one : Part) (left : ℕ)
    → ((first second : ℕ) → one ≡ Cons first second → ⊥) → (one ≡ Nil → ⊥) → ChainPassed words (Cons car cdr) left_before opened gap after one left
    → PartUnwritten words one left → PartUnwritten words (Cons car cdr) (1 + left_before)
end_unwritten words car cdr left_before opened gap after one left no_cons no_nil p f =
    list_unwritten words car cdr left_before
    (λ names classes z m s h.
    let o = p.there names classes z m s h in
    o.unwritten (behind_dot left o.shape (no_list m.places words o.shape one no_cons no_nil o.is_part) (f.there names classes z m o.shape o.is_part)))

-- a list, by the text of its chain
list_written_by :
    (words : List ℕ) (car cdr left rest : ℕ) (text before now : List ℕ) → now ≡ before ++ (codes "(" ++ (text ++ codes ")"))
    → ((names : List (List ℕ)) (classes : List ClassRow) (z : meaning.State) (m : Stands names classes z words) (s : Shape) → IsCons m.places car cdr s
    → WritesChain z.store [] left s text rest) → PartWritten words (Cons car cdr) (1 + left) before now rest
list_written_by words car cdr left rest text before now appended chain = record {
  text = codes "(" ++ (text ++ codes ")");
  appended = appended;
  there = λ names classes z m s h.
      let P : Shape → Type 0 = λ x. WritesChain z.store [] left x text rest in
      let more : suc left ≡ 1 + left = omega arith in
      let whole : List ℕ = codes "(" ++ (text ++ codes ")") in
      let Q : Shape → Type 0 = λ x. Writes z.store (suc left) x whole rest in
      let R : ℕ → Type 0 = λ n. Writes z.store n s whole rest in
      subst R more (subst Q (sym h.shape_is) (writes_list left rest h.first h.second text (subst P h.shape_is (chain names classes z m s h))));
}

pub list_written :
    (words : List ℕ) (car cdr left : ℕ) (before opened gap after now : List ℕ) (rest : ℕ) → opened ≡ before ++ codes "("
    → ChainPassed words (Cons car cdr) left opened gap after Nil rest → now ≡ after ++ codes ")"
    → PartWritten words (Cons car cdr) (1 + left) before now rest
list_written words car cdr left before opened gap after now rest opens p closes =
    list_written_by words car cdr left rest p.text before now (closed_text before (codes "(") opened p.text after (codes ")") now opens p.appended closes)
    (λ names classes z m s h.
    let o = p.there names classes z m s h in
    let is_nil : o.shape ≡ shape.nil = o.is_part in
    let P : Shape → Type 0 = λ x. WritesChain z.store gap rest x [] rest in
    let Q : List ℕ → Type 0 = λ x. WritesChain z.store [] left s x rest in
    subst Q (append-nil p.text) (o.written [] rest (subst P (sym is_nil) (at_nil gap rest))))

pub dotted_written :
    (words : List ℕ) (car cdr left : ℕ) (before opened gap after dot ended now : List ℕ) (one : Part) (middle rest : ℕ)
    → ((first second : ℕ) → one ≡ Cons first second → ⊥) → (one ≡ Nil → ⊥) → opened ≡ before ++ codes "("
    → ChainPassed words (Cons car cdr) left opened gap after one middle → dot ≡ after ++ codes " . " → PartWritten words one middle dot ended rest
    → now ≡ ended ++ codes ")" → PartWritten words (Cons car cdr) (1 + left) before now rest
dotted_written words car cdr left before opened gap after dot ended now one middle rest no_cons no_nil opens p dots t closes =
    let text : List ℕ = p.text ++ (codes " . " ++ t.text) in
    let appended : ended ≡ opened ++ text = more_text opened p.text (codes " . ") t.text after dot ended p.appended dots t.appended in
    list_written_by words car cdr left rest text before now (closed_text before (codes "(") opened text ended (codes ")") now opens appended closes)
    (λ names classes z m s h.
    let o = p.there names classes z m s h in
    o.written (codes " . " ++ t.text) rest
    (at_dot gap middle rest o.shape t.text (no_list m.places words o.shape one no_cons no_nil o.is_part) (t.there names classes z m o.shape o.is_part)))
