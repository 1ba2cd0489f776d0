-- What a lexeme that is taken is in the grammar: an atom's spelling, a parenthesis, a dot or an opening.
use Rattle.std.proofs.Common.{◌≡◌, ℕ, ◌+◌, ◌<◌, ◌≤◌, Bool, true, false, ◌==◌, nat_lt, List as Seq, [], ◌∷◌, ◌++◌, length, take, drop, Some, None, refl, sym, ap, subst, ◌∙◌, append_assoc, arith, ◌⊎◌, inl, inr, ⊎_elim, length-append}
use Rattle.std.specs.Prelude.{map, codes}
use Rattle.std.specs.List.{list_all}
use Rattle.std.specs.Str.{bytes_eq}
use Rattle.std.proofs.Math.Seq.{take-append_seam, drop-append_seam}
use Rattle.std.proofs.lemmas.Bool.{eqb-true, ltb-false, ltb-true, le-ltb, and_parts}
use Rattle.std.proofs.lemmas.Option.{same_Some}
use Rattle.std.proofs.lemmas.Slice.Eq.{bytes_eq-Decides}
use Rattle.base.specs.declared.reason.Reason.TheVariants.{BadByte, BadSharp, FloatLiteral, IntegerTooWide, NameTooLong}
use Rattle.front_reader.specs.declared.opening.Opening.{Opening}
use Rattle.front_reader.specs.declared.opening.Opening.TheVariants.{List, Vector, Before}
use Rattle.front_reader.specs.declared.opening.Prefix.TheVariants.{Quote, Quasiquote, Unquote, UnquoteSplicing, Function}
use Rattle.front_reader.specs.declared.lexeme.Lexeme.{Lexeme}
use Rattle.front_reader.specs.declared.lexeme.Lexeme.TheVariants.{Close, Dot, Open, Integer, Character, Token, Bar}
use Rattle.front_reader.specs.declared.lexeme.Lexed.TheVariants.{Taken, Fault}
use Rattle.front_reader.specs.declared.quoted.Quoted.{Quoted}
use Rattle.front_reader.specs.declared.quoted.Quoted.TheVariants.{Closed, Unclosed, Bad}
use Rattle.front_reader.specs.Characters.{is_token, folded, begins, digit_value}
use Rattle.front_reader.specs.Tokens.{IsToken, is_integer, integer_value, is_wide, is_float, is_dot, are_digits, behind_sign}
use Rattle.front_reader.specs.Atoms.{Atom, an_integer, a_character, a_symbol, a_string, Base, binary, octal, hexadecimal, Spells, decimal, token, barred, quoted, based, marked, lettered, space, newline}
use Rattle.front_reader.specs.Trees.{prefix_bytes, PrefixEnds}
use Rattle.front_reader.specs.bridge.Lexemes.{lex, token_run, token_lexed, integer_lexed, mark_lexed, sharp_lexed, based_lexed, base_of, character_lexed, name_lexed, comma_lexed, bar_lexed, text_lexed, quoted_from, unescaped, atom_of}
use Rattle.front_reader.proofs.Skips.{chosen}
use Rattle.front_reader.proofs.TokenRuns.{Run, run_of, run_taken, run_is_token}
use Rattle.front_reader.proofs.Quotes.{IsClosed, quoted-closed, inside-unescaped, between-inside}

-- the bytes of an opening, and what must follow them
abbrev pub opening_bytes : Opening → Seq ℕ
opening_bytes List = 40 ∷ []
opening_bytes Vector = 35 ∷ 40 ∷ []
opening_bytes (Before x) = prefix_bytes x

abbrev pub OpeningEnds : Opening → Seq ℕ → Type 0
OpeningEnds List after = Unit {0}
OpeningEnds Vector after = Unit {0}
OpeningEnds (Before x) after = PrefixEnds x after

-- a lexeme of so many bytes at the front of a text
pub data Takes (text : Seq ℕ) (n : ℕ) (x : Lexeme) : Type 0 where
  takes_atom : (b after : Seq ℕ) (a : Atom) → text ≡ b ++ after → n ≡ length b → 0 < length b → Spells b after a
      → atom_of x b ≡ Some a → Takes text n x
  takes_close : (bs : Seq ℕ) → text ≡ 41 ∷ bs → n ≡ 1 → x ≡ Close → Takes text n x
  takes_dot : (bs : Seq ℕ) → text ≡ 46 ∷ bs → n ≡ 1 → x ≡ Dot → begins is_token bs ≡ false → Takes text n x
  takes_open : (o : Opening) (bs : Seq ℕ) → text ≡ opening_bytes o ++ bs → n ≡ length (opening_bytes o) → x ≡ Open o
      → OpeningEnds o bs → Takes text n x

-- ---- tokens

-- the parts of what is taken
taken_count : {n m : ℕ} {x y : Lexeme} → Taken n x ≡ Taken m y → n ≡ m
taken_count e = cc

taken_lexeme : {n m : ℕ} {x y : Lexeme} → Taken n x ≡ Taken m y → x ≡ y
taken_lexeme e = cc

-- `.` is the one byte of its token
dot_is : (w : Seq ℕ) → is_dot w ≡ true → w ≡ 46 ∷ []
dot_is [] e = absurd (cc)
dot_is (b ∷ []) e = ap (λ c. c ∷ []) (eqb-true b 46 e)
dot_is (b ∷ c ∷ bs) e = absurd (cc)

token-takes : (text w after : Seq ℕ) (n : ℕ) (x : Lexeme) → text ≡ w ++ after → IsToken w after → 0 < length w → token_lexed w ≡ Taken n x → Takes text n x
unfolding token_lexed
token-takes text w after n x front t some e =
    ⊎_elim
    (λ i.
    ⊎_elim
    (λ v. absurd (cc))
    (λ v.
    takes_atom w after (an_integer (integer_value 10 w)) front (sym (taken_count v.1)) some (decimal w after t i.0 v.0)
    (ap (λ y. atom_of y w) (sym (taken_lexeme v.1))))
    (chosen (is_wide 10 w) (Fault 0 IntegerTooWide) (Taken (length w) (Integer (integer_value 10 w))) (Taken n x) i.1))
    (λ i.
    ⊎_elim
    (λ f. absurd (cc))
    (λ f.
    ⊎_elim
    (λ d.
    let one : w ≡ 46 ∷ [] = dot_is w d.0 in
    takes_dot after (front ∙ ap (λ v. v ++ after) one) (sym (taken_count d.1) ∙ ap length one) (sym (taken_lexeme d.1)) t.ends)
    (λ d.
    ⊎_elim
    (λ l. absurd (cc))
    (λ l.
    takes_atom w after (a_symbol (map folded w)) front (sym (taken_count l.1)) some (token w after t i.0 f.0 d.0 (ltb-false 256 (length w) l.0))
    (ap (λ y. atom_of y w) (sym (taken_lexeme l.1))))
    (chosen (nat_lt 256 (length w)) (Fault 0 NameTooLong) (Taken (length w) Token) (Taken n x) d.1))
    (chosen (is_dot w) (Taken (length w) Dot) _ (Taken n x) f.1))
    (chosen (is_float w) (Fault 0 FloatLiteral) _ (Taken n x) i.1))
    (chosen (is_integer 10 w) (integer_lexed 10 (length w) w) _ (Taken n x) e)

-- ---- quotes

text-takes : (bs : Seq ℕ) (q : Quoted) (n : ℕ) (x : Lexeme) → quoted_from 34 false 0 bs ≡ q → text_lexed q ≡ Taken n x → Takes (34 ∷ bs) n x
text-takes bs Unclosed n x h e = absurd (cc)
text-takes bs (Bad k) n x h e = absurd (cc)
text-takes bs (Closed k) n x h e =
    let s = quoted-closed 34 bs 0 k h in
    takes_atom (34 ∷ (s.inside ++ 34 ∷ [])) s.rest (a_string s.content)
    (ap (λ l. 34 ∷ l) (s.front ∙ sym (append_assoc s.inside (34 ∷ []) s.rest)))
    (sym (taken_count e) ∙ omega (arith, s.count, length-append s.inside (34 ∷ [])))
    (omega arith)
    (quoted s.inside s.rest s.content s.is_inside)
    (ap (λ y. atom_of y (34 ∷ (s.inside ++ 34 ∷ []))) (sym (taken_lexeme e)) ∙ ap (λ c. Some (a_string c)) (between-inside 34 s.inside s.content s.is_inside))

-- the content of what is inside, where so many bytes are taken
pub content_taken : (quote : ℕ) (bs : Seq ℕ) (k : ℕ) (s : IsClosed quote 0 bs k) → unescaped false (take k bs) ≡ s.content
content_taken quote bs k s =
    let n : k ≡ length s.inside = omega (arith, s.count) in
    ap (λ j. unescaped false (take j bs)) n
    ∙ ap (λ l. unescaped false (take (length s.inside) l)) s.front
    ∙ ap (unescaped false) (take-append_seam s.inside (quote ∷ s.rest))
    ∙ inside-unescaped quote s.inside s.content s.is_inside

bar-takes : (bs : Seq ℕ) (q : Quoted) (n : ℕ) (x : Lexeme) → quoted_from 124 false 0 bs ≡ q → bar_lexed q bs ≡ Taken n x → Takes (124 ∷ bs) n x
bar-takes bs Unclosed n x h e = absurd (cc)
bar-takes bs (Bad k) n x h e = absurd (cc)
bar-takes bs (Closed k) n x h e =
    let s = quoted-closed 124 bs 0 k h in
    ⊎_elim
    (λ l. absurd (cc))
    (λ l.
    takes_atom (124 ∷ (s.inside ++ 124 ∷ [])) s.rest (a_symbol s.content)
    (ap (λ l. 124 ∷ l) (s.front ∙ sym (append_assoc s.inside (124 ∷ []) s.rest)))
    (sym (taken_count l.1) ∙ omega (arith, s.count, length-append s.inside (124 ∷ [])))
    (omega arith)
    (barred s.inside s.rest s.content s.is_inside (omega (arith, ltb-false 256 (length (unescaped false (take k bs))) l.0, ap length (content_taken 124 bs k s))))
    (ap (λ y. atom_of y (124 ∷ (s.inside ++ 124 ∷ []))) (sym (taken_lexeme l.1)) ∙ ap (λ c. Some (a_symbol c)) (between-inside 124 s.inside s.content s.is_inside)))
    (chosen (nat_lt 256 (length (unescaped false (take k bs)))) (Fault 0 NameTooLong) (Taken (k + 2) Bar) (Taken n x) e)

-- ---- behind `#`

-- base 0 has no digits
no_digit : (bs : Seq ℕ) → are_digits 0 bs ≡ false
no_digit [] = refl
no_digit (b ∷ bs) = rw (le-ltb (digit_value b) 0 (omega arith)) refl

pub no_base : (w : Seq ℕ) → is_integer 0 w ≡ false
no_base w = no_digit (behind_sign w)

-- a base that is not 0 is one of three
pub base_cases : (c : ℕ) → (Base c (base_of c)) ⊎ ((base_of c ≡ 0) × ((c == 98) ≡ false) × ((c == 111) ≡ false) × ((c == 120) ≡ false))
base_cases c = by (c == 98) (c == 111) (c == 120) refl refl refl
  where
    by : (x y z : Bool) → (c == 98) ≡ x → (c == 111) ≡ y → (c == 120) ≡ z → (Base c (base_of c)) ⊎ ((base_of c ≡ 0) × ((c == 98) ≡ false) × ((c == 111) ≡ false) × ((c == 120) ≡ false))
    by true y z p q r = let same : c ≡ 98 = eqb-true c 98 p in inl (subst (λ d. Base d (base_of d)) (sym same) binary)
    by false true z p q r = let same : c ≡ 111 = eqb-true c 111 q in inl (subst (λ d. Base d (base_of d)) (sym same) octal)
    by false false true p q r = let same : c ≡ 120 = eqb-true c 120 r in inl (subst (λ d. Base d (base_of d)) (sym same) hexadecimal)
    by false false false p q r = inr (rw (p, q, r) refl, p, q, r)

-- an integer is not nothing
some_digits : (base : ℕ) (w : Seq ℕ) → is_integer base w ≡ true → begins is_token w ≡ false → list_all is_token w ≡ true → 0 < length w
some_digits base [] i t a = absurd (cc)
some_digits base (b ∷ bs) i t a = omega arith

first_is_token : (w : Seq ℕ) → 0 < length w → list_all is_token w ≡ true → begins is_token w ≡ true
first_is_token [] some all = absurd (omega (arith, some))
first_is_token (b ∷ bs) some all = (and_parts (is_token b) (list_all is_token bs) all).0

integer_some : (base : ℕ) (w : Seq ℕ) → is_integer base w ≡ true → 0 < length w
integer_some base [] i = absurd (cc)
integer_some base (b ∷ bs) i = omega arith

-- a run with digits in it is a token
pub integer_token : (base : ℕ) (text : Seq ℕ) (r : Run text) → is_integer base r.word ≡ true → IsToken r.word r.after
integer_token base text r i = record { some = first_is_token r.word (integer_some base r.word i) r.all; all = r.all; ends = r.ends }

based-takes : (c : ℕ) (cs : Seq ℕ) (n : ℕ) (x : Lexeme) (r : Run cs) → based_lexed (base_of c) r.word ≡ Taken n x → Takes (35 ∷ c ∷ cs) n x
based-takes c cs n x r e =
    ⊎_elim
    (λ i.
    ⊎_elim
    (λ v. absurd (cc))
    (λ v.
    ⊎_elim
    (λ base.
    takes_atom (35 ∷ c ∷ r.word) r.after (an_integer (integer_value (base_of c) r.word))
    (ap (λ l. 35 ∷ c ∷ l) r.front)
    (sym (taken_count v.1) ∙ omega arith)
    (omega arith)
    (based c (base_of c) r.word r.after base (integer_token (base_of c) cs r i.0) i.0 v.0)
    (ap (λ y. atom_of y (35 ∷ c ∷ r.word)) (sym (taken_lexeme v.1))))
    (λ none. let no : true ≡ false = sym i.0 ∙ ap (λ b. is_integer b r.word) none.0 ∙ no_base r.word in absurd (cc))
    (base_cases c))
    (chosen (is_wide (base_of c) r.word) (Fault 0 IntegerTooWide) (Taken (length r.word + 2) (Integer (integer_value (base_of c) r.word))) (Taken n x) i.1))
    (λ i. absurd (cc))
    (chosen (is_integer (base_of c) r.word) (integer_lexed (base_of c) (length r.word + 2) r.word) (Fault 0 BadSharp) (Taken n x) e)

-- the name behind `#\`
name-takes : (cs : Seq ℕ) (n : ℕ) (x : Lexeme) (r : Run cs) → IsToken r.word r.after → name_lexed r.word ≡ Taken n x → Takes (35 ∷ 92 ∷ cs) n x
name-takes cs n x r t e =
    ⊎_elim
    (λ s.
    takes_atom (35 ∷ 92 ∷ r.word) r.after (a_character 32) (ap (λ l. 35 ∷ 92 ∷ l) r.front)
    (sym (taken_count s.1) ∙ omega arith) (omega arith)
    (space r.word r.after t ((bytes_eq-Decides (map folded r.word) (codes "space")).0 s.0))
    (ap (λ y. atom_of y (35 ∷ 92 ∷ r.word)) (sym (taken_lexeme s.1))))
    (λ s.
    ⊎_elim
    (λ l.
    takes_atom (35 ∷ 92 ∷ r.word) r.after (a_character 10) (ap (λ l. 35 ∷ 92 ∷ l) r.front)
    (sym (taken_count l.1) ∙ omega arith) (omega arith)
    (newline r.word r.after t ((bytes_eq-Decides (map folded r.word) (codes "newline")).0 l.0))
    (ap (λ y. atom_of y (35 ∷ 92 ∷ r.word)) (sym (taken_lexeme l.1))))
    (λ l. absurd (cc))
    (chosen (bytes_eq (map folded r.word) (codes "newline")) (Taken (length r.word + 2) (Character 10)) (Fault 0 BadSharp) (Taken n x) s.1))
    (chosen (bytes_eq (map folded r.word) (codes "space")) (Taken (length r.word + 2) (Character 32)) _ (Taken n x) e)

-- a run of one byte, or none
short_token : (c : ℕ) (cs w after : Seq ℕ) → c ∷ cs ≡ w ++ after → length w ≤ 1 → IsToken w after → Spells (35 ∷ 92 ∷ c ∷ []) cs (a_character c)
short_token c cs [] after f n t = let no : false ≡ true = t.some in absurd (cc)
short_token c cs (x ∷ []) after f n t =
    let same : c ≡ x = cc in
    let rest : cs ≡ after = cc in
    rw (same, rest) (lettered x after t)
short_token c cs (x ∷ y ∷ ys) after f n t = absurd (omega (arith, n))

short_run : (c : ℕ) (cs : Seq ℕ) (r : Run (c ∷ cs)) (y : Bool) → is_token c ≡ y → length r.word ≤ 1 → Spells (35 ∷ 92 ∷ c ∷ []) cs (a_character c)
short_run c cs r false e n = marked c cs e
short_run c cs r true e n = short_token c cs r.word r.after r.front n (run_is_token c cs r e)

-- a run of more than one byte is a token
pub long_run : (text : Seq ℕ) (r : Run text) → 1 < length r.word → IsToken r.word r.after
long_run text r n = record { some = first_is_token r.word (omega (arith, n)) r.all; all = r.all; ends = r.ends }

character-takes : (cs : Seq ℕ) (n : ℕ) (x : Lexeme) → character_lexed cs ≡ Taken n x → Takes (35 ∷ 92 ∷ cs) n x
character-takes [] n x e = absurd (cc)
character-takes (c ∷ cs) n x e =
    let r = run_of (c ∷ cs) in
    let taken : take (token_run (c ∷ cs)) (c ∷ cs) ≡ r.word = run_taken (c ∷ cs) r in
    ⊎_elim
    (λ h. name-takes (c ∷ cs) n x r (long_run (c ∷ cs) r (omega (arith, r.count, ltb-true 1 (token_run (c ∷ cs)) h.0))) (ap name_lexed (sym taken) ∙ h.1))
    (λ h.
    takes_atom (35 ∷ 92 ∷ c ∷ []) cs (a_character c) refl (sym (taken_count h.1)) (omega arith)
    (short_run c cs r (is_token c) refl (omega (arith, r.count, ltb-false 1 (token_run (c ∷ cs)) h.0)))
    (ap (λ y. atom_of y (35 ∷ 92 ∷ c ∷ [])) (sym (taken_lexeme h.1))))
    (chosen (nat_lt 1 (token_run (c ∷ cs))) (name_lexed (take (token_run (c ∷ cs)) (c ∷ cs))) (Taken 3 (Character c)) (Taken n x) e)

sharp-takes : (bs : Seq ℕ) (n : ℕ) (x : Lexeme) → sharp_lexed bs ≡ Taken n x → Takes (35 ∷ bs) n x
unfolding sharp_lexed
sharp-takes [] n x e = absurd (cc)
sharp-takes (c ∷ cs) n x e =
    ⊎_elim
    (λ h. takes_open Vector cs (ap (λ d. 35 ∷ d ∷ cs) (eqb-true c 40 h.0)) (sym (taken_count h.1)) (sym (taken_lexeme h.1)) tt)
    (λ h.
    ⊎_elim
    (λ k. takes_open (Before Function) cs (ap (λ d. 35 ∷ d ∷ cs) (eqb-true c 39 k.0)) (sym (taken_count k.1)) (sym (taken_lexeme k.1)) tt)
    (λ k.
    ⊎_elim
    (λ l. let same : c ≡ 92 = eqb-true c 92 l.0 in rw same (character-takes cs n x l.1))
    (λ l. let r = run_of cs in based-takes c cs n x r (ap (based_lexed (base_of c)) (sym (run_taken cs r)) ∙ l.1))
    (chosen (c == 92) (character_lexed cs) _ (Taken n x) k.1))
    (chosen (c == 39) (Taken 2 (Open (Before Function))) _ (Taken n x) h.1))
    (chosen (c == 40) (Taken 2 (Open Vector)) _ (Taken n x) e)

-- ---- all of them

begins_at : (bs : Seq ℕ) → begins (λ c. c == 64) bs ≡ true → (cs : Seq ℕ) × (bs ≡ 64 ∷ cs)
begins_at [] e = absurd (cc)
begins_at (b ∷ bs) e = (bs, ap (λ c. c ∷ bs) (eqb-true b 64 e))

comma-takes : (bs : Seq ℕ) (n : ℕ) (x : Lexeme) → comma_lexed bs ≡ Taken n x → Takes (44 ∷ bs) n x
comma-takes bs n x e =
    ⊎_elim
    (λ h. let s = begins_at bs h.0 in takes_open (Before UnquoteSplicing) s.0 (ap (λ l. 44 ∷ l) s.1) (sym (taken_count h.1)) (sym (taken_lexeme h.1)) tt)
    (λ h. takes_open (Before Unquote) bs refl (sym (taken_count h.1)) (sym (taken_lexeme h.1)) h.0)
    (chosen (begins (λ c. c == 64) bs) (Taken 2 (Open (Before UnquoteSplicing))) (Taken 1 (Open (Before Unquote))) (Taken n x) e)

-- a lexeme of one byte
one_byte : (b c : ℕ) (bs : Seq ℕ) → (b == c) ≡ true → b ∷ bs ≡ c ∷ bs
one_byte b c bs e = ap (λ d. d ∷ bs) (eqb-true b c e)

mark-takes : (b : ℕ) (bs : Seq ℕ) (n : ℕ) (x : Lexeme) → mark_lexed b bs ≡ Taken n x → Takes (b ∷ bs) n x
unfolding mark_lexed
mark-takes b bs n x e =
    ⊎_elim
    (λ h. takes_open List bs (one_byte b 40 bs h.0) (sym (taken_count h.1)) (sym (taken_lexeme h.1)) tt)
    (λ h.
    ⊎_elim
    (λ i. takes_close bs (one_byte b 41 bs i.0) (sym (taken_count i.1)) (sym (taken_lexeme i.1)))
    (λ i.
    ⊎_elim
    (λ j. takes_open (Before Quote) bs (one_byte b 39 bs j.0) (sym (taken_count j.1)) (sym (taken_lexeme j.1)) tt)
    (λ j.
    ⊎_elim
    (λ k. takes_open (Before Quasiquote) bs (one_byte b 96 bs k.0) (sym (taken_count k.1)) (sym (taken_lexeme k.1)) tt)
    (λ k.
    ⊎_elim
    (λ l. let same : b ≡ 44 = eqb-true b 44 l.0 in rw same (comma-takes bs n x l.1))
    (λ l.
    ⊎_elim
    (λ m. let same : b ≡ 34 = eqb-true b 34 m.0 in rw same (text-takes bs (quoted_from 34 false 0 bs) n x refl m.1))
    (λ m.
    ⊎_elim
    (λ o. let same : b ≡ 124 = eqb-true b 124 o.0 in rw same (bar-takes bs (quoted_from 124 false 0 bs) n x refl o.1))
    (λ o.
    ⊎_elim
    (λ p. let same : b ≡ 35 = eqb-true b 35 p.0 in rw same (sharp-takes bs n x p.1))
    (λ p. absurd (cc))
    (chosen (b == 35) (sharp_lexed bs) (Fault 0 BadByte) (Taken n x) o.1))
    (chosen (b == 124) (bar_lexed (quoted_from 124 false 0 bs) bs) _ (Taken n x) m.1))
    (chosen (b == 34) (text_lexed (quoted_from 34 false 0 bs)) _ (Taken n x) l.1))
    (chosen (b == 44) (comma_lexed bs) _ (Taken n x) k.1))
    (chosen (b == 96) (Taken 1 (Open (Before Quasiquote))) _ (Taken n x) j.1))
    (chosen (b == 39) (Taken 1 (Open (Before Quote))) _ (Taken n x) i.1))
    (chosen (b == 41) (Taken 1 Close) _ (Taken n x) h.1))
    (chosen (b == 40) (Taken 1 (Open List)) _ (Taken n x) e)

-- what a taken lexeme is
pub takes : (text : Seq ℕ) (n : ℕ) (x : Lexeme) → lex text ≡ Taken n x → Takes text n x
unfolding lex
takes [] n x e = absurd (cc)
takes (b ∷ bs) n x e =
    let r = run_of (b ∷ bs) in
    ⊎_elim
    (λ h. let t = run_is_token b bs r h.0 in
    token-takes (b ∷ bs) r.word r.after n x r.front t (some_of r.word t.some) (ap token_lexed (sym (run_taken (b ∷ bs) r)) ∙ h.1))
    (λ h. mark-takes b bs n x h.1)
    (chosen (is_token b) (token_lexed (take (token_run (b ∷ bs)) (b ∷ bs))) (mark_lexed b bs) (Taken n x) e)
  where
    some_of : (w : Seq ℕ) → begins is_token w ≡ true → 0 < length w
    some_of [] s = absurd (cc)
    some_of (c ∷ cs) s = omega arith

-- what is taken for a lexeme that spells a is spelled so
pub spells-taken : (text : Seq ℕ) (n : ℕ) (x : Lexeme) (a : Atom) → Takes text n x → atom_of x (take n text) ≡ Some a → Spells (take n text) (drop n text) a
spells-taken text n x a (takes_atom b after c f m s p q) h =
    let front : take n text ≡ b = ap (λ j. take j text) m ∙ ap (take (length b)) f ∙ take-append_seam b after in
    let rest : drop n text ≡ after = ap (λ j. drop j text) m ∙ ap (drop (length b)) f ∙ drop-append_seam b after in
    let same : c ≡ a = same_Some c a (sym q ∙ ap (atom_of x) (sym front) ∙ h) in
    rw (front, rest) (subst (Spells b after) same p)
spells-taken text n x a (takes_close bs f m y) h = let no : None ≡ Some a = ap (λ z. atom_of z (take n text)) (sym y) ∙ h in absurd (cc)
spells-taken text n x a (takes_dot bs f m y s) h = let no : None ≡ Some a = ap (λ z. atom_of z (take n text)) (sym y) ∙ h in absurd (cc)
spells-taken text n x a (takes_open o bs f m y s) h = let no : None ≡ Some a = ap (λ z. atom_of z (take n text)) (sym y) ∙ h in absurd (cc)

pub opening_some : (o : Opening) → 0 < length (opening_bytes o)
opening_some List = omega arith
opening_some Vector = omega arith
opening_some (Before Quote) = omega arith
opening_some (Before Quasiquote) = omega arith
opening_some (Before Unquote) = omega arith
opening_some (Before UnquoteSplicing) = omega arith
opening_some (Before Function) = omega arith
