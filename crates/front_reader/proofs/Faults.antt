-- The faults that the code finds are the grammar's rows.
use Rattle.std.proofs.Common.{◌≡◌, ℕ, ◌+◌, ◌<◌, true, false, ◌==◌, nat_lt, List, [], ◌∷◌, ◌++◌, length, take, refl, sym, ap, subst, ◌∙◌, append_assoc, arith, ⊎_elim, length-append}
use Rattle.std.specs.Prelude.{map, codes}
use Rattle.std.specs.Str.{bytes_eq}
use Rattle.std.proofs.Math.Seq.{take-append_seam}
use Rattle.std.proofs.lemmas.Bool.{eqb-true, ltb-true}
use Rattle.base.specs.declared.place.Place.{Place}
use Rattle.base.specs.declared.reason.Reason.{Reason}
use Rattle.base.specs.declared.reason.Reason.TheVariants.{BadByte, UnclosedString, BadSharp, FloatLiteral, IntegerTooWide, NameTooLong}
use Rattle.front_reader.specs.declared.opening.Opening.TheVariants.{List as ListOpening, Vector as VectorOpening, Before}
use Rattle.front_reader.specs.declared.opening.Prefix.TheVariants.{Quote, Quasiquote, Unquote, UnquoteSplicing, Function}
use Rattle.front_reader.specs.declared.gap.Mode.TheVariants.{Between}
use Rattle.front_reader.specs.declared.gap.Skipped.TheVariants.{Ends}
use Rattle.front_reader.specs.declared.lexeme.Lexeme.TheVariants.{Close, Dot, Open, Integer, Character, Token, Bar}
use Rattle.front_reader.specs.declared.lexeme.Lexed.TheVariants.{Taken, Fault}
use Rattle.front_reader.specs.declared.quoted.Quoted.{Quoted}
use Rattle.front_reader.specs.declared.quoted.Quoted.TheVariants.{Closed, Unclosed, Bad}
use Rattle.front_reader.specs.Characters.{is_blank, is_token, folded, begins, place_behind}
use Rattle.front_reader.specs.Tokens.{IsToken, is_integer, integer_value, is_wide, is_float, is_dot}
use Rattle.front_reader.specs.Trees.{Trees}
use Rattle.front_reader.specs.Fronts.{Level}
use Rattle.front_reader.specs.Stops.{Row, bad_byte, bad_byte_in_bars, bad_byte_escaped, unclosed_string, unclosed_string_escaped, unclosed_bar, unclosed_bar_escaped, bad_sharp, float_literal, integer_too_wide, based_too_wide, token_too_long, bar_too_long, IsBadSharp, sharp_ends, no_row, no_digits, no_character, no_name, begins_nothing}
use Rattle.front_reader.specs.bridge.Lexemes.{skip, lex, token_run, token_lexed, integer_lexed, mark_lexed, sharp_lexed, based_lexed, base_of, character_lexed, name_lexed, comma_lexed, bar_lexed, text_lexed, quoted_from, unescaped}
use Rattle.front_reader.proofs.Skips.{chosen, no-gap}
use Rattle.front_reader.proofs.TokenRuns.{Run, run_of, run_taken, run_is_token}
use Rattle.front_reader.proofs.Quotes.{IsUnclosed, all_inside, ends_escaped, IsBad, bad_plain, bad_escaped, quoted-closed, quoted-unclosed, quoted-bad}
use Rattle.front_reader.proofs.Taking.{content_taken, no_base, base_cases, integer_token, long_run}

-- the parts of a fault
fault_offset : {k j : ℕ} {r s : Reason} → Fault k r ≡ Fault j s → k ≡ j
fault_offset e = cc

fault_reason : {k j : ℕ} {r s : Reason} → Fault k r ≡ Fault j s → r ≡ s
fault_reason e = cc

module _ (p : Place) (ts : Trees) (ls : List Level) (q : Place) where
  -- a row at the first byte
  here_row : (text : List ℕ) (k : ℕ) (r s : Reason) → Fault 0 s ≡ Fault k r → Row p ts ls q text q s → Row p ts ls q text (place_behind q (take k text)) r
  here_row text k r s e row =
      let n : 0 ≡ k = fault_offset e in
      let same : s ≡ r = fault_reason e in
      subst (λ j. Row p ts ls q text (place_behind q (take j text)) r) n (subst (Row p ts ls q text q) same row)

  -- and one behind so many bytes
  behind_row : (text front : List ℕ) (n k : ℕ) (r s : Reason) → Fault n s ≡ Fault k r → take n text ≡ front → Row p ts ls q text (place_behind q front) s → Row p ts ls q text (place_behind q (take k text)) r
  behind_row text front n k r s e f row =
      let m : n ≡ k = fault_offset e in
      let same : s ≡ r = fault_reason e in
      subst (λ j. Row p ts ls q text (place_behind q (take j text)) r) m
      (subst (λ x. Row p ts ls q text (place_behind q x) r) (sym f) (subst (Row p ts ls q text (place_behind q front)) same row))

  token-fault : (text w after : List ℕ) (k : ℕ) (r : Reason) → text ≡ w ++ after → IsToken w after → token_lexed w ≡ Fault k r → Row p ts ls q text (place_behind q (take k text)) r
  unfolding token_lexed
  token-fault text w after k r front t e =
      ⊎_elim
      (λ i.
      ⊎_elim
      (λ v. here_row text k r IntegerTooWide v.1 (subst (λ x. Row p ts ls q x q IntegerTooWide) (sym front) (integer_too_wide w after t i.0 v.0)))
      (λ v. absurd (cc))
      (chosen (is_wide 10 w) (Fault 0 IntegerTooWide) (Taken (length w) (Integer (integer_value 10 w))) (Fault k r) i.1))
      (λ i.
      ⊎_elim
      (λ f. here_row text k r FloatLiteral f.1 (subst (λ x. Row p ts ls q x q FloatLiteral) (sym front) (float_literal w after t i.0 f.0)))
      (λ f.
      ⊎_elim
      (λ d. absurd (cc))
      (λ d.
      ⊎_elim
      (λ l. here_row text k r NameTooLong l.1 (subst (λ x. Row p ts ls q x q NameTooLong) (sym front) (token_too_long w after t i.0 f.0 (ltb-true 256 (length w) l.0))))
      (λ l. absurd (cc))
      (chosen (nat_lt 256 (length w)) (Fault 0 NameTooLong) (Taken (length w) Token) (Fault k r) d.1))
      (chosen (is_dot w) (Taken (length w) Dot) _ (Fault k r) f.1))
      (chosen (is_float w) (Fault 0 FloatLiteral) _ (Fault k r) i.1))
      (chosen (is_integer 10 w) (integer_lexed 10 (length w) w) _ (Fault k r) e)

  -- ---- quotes

  string_row : (bs : List ℕ) → IsUnclosed 34 bs → Row p ts ls q (34 ∷ bs) q UnclosedString
  string_row bs (all_inside content s) = unclosed_string bs content s
  string_row bs (ends_escaped inside content f s) =
      subst (λ x. Row p ts ls q (34 ∷ x) q UnclosedString) (sym f) (unclosed_string_escaped inside content s)

  bar_row : (bs : List ℕ) → IsUnclosed 124 bs → Row p ts ls q (124 ∷ bs) q UnclosedString
  bar_row bs (all_inside content s) = unclosed_bar bs content s
  bar_row bs (ends_escaped inside content f s) =
      subst (λ x. Row p ts ls q (124 ∷ x) q UnclosedString) (sym f) (unclosed_bar_escaped inside content s)

  -- any byte may stand in a string
  no_bad : (bs : List ℕ) (k : ℕ) → IsBad 34 0 bs k → ⊥
  no_bad bs k (bad_plain inside content b more f n m s) = let no : true ≡ false = m in cc
  no_bad bs k (bad_escaped inside content b more f n m s) = let no : true ≡ false = m in cc

  text-fault : (bs : List ℕ) (o : Quoted) (k : ℕ) (r : Reason) → quoted_from 34 false 0 bs ≡ o → text_lexed o ≡ Fault k r → Row p ts ls q (34 ∷ bs) (place_behind q (take k (34 ∷ bs))) r
  text-fault bs (Closed n) k r h e = absurd (cc)
  text-fault bs Unclosed k r h e = here_row (34 ∷ bs) k r UnclosedString e (string_row bs (quoted-unclosed 34 bs 0 h))
  text-fault bs (Bad n) k r h e = absurd (no_bad bs n (quoted-bad 34 bs 0 n h))

  -- so many bytes from the front
  front_taken : (front rest : List ℕ) (n : ℕ) → n ≡ length front → take n (front ++ rest) ≡ front
  front_taken front rest n e = ap (λ j. take j (front ++ rest)) e ∙ take-append_seam front rest

  bad_bar : (bs : List ℕ) (n k : ℕ) (r : Reason) → IsBad 124 0 bs n → Fault (n + 1) BadByte ≡ Fault k r → Row p ts ls q (124 ∷ bs) (place_behind q (take k (124 ∷ bs))) r
  bad_bar bs n k r (bad_plain inside content b more f m d s) e =
      let t : 124 ∷ bs ≡ (124 ∷ inside) ++ b ∷ more = ap (λ x. 124 ∷ x) f in
      let taken : take (n + 1) (124 ∷ bs) ≡ 124 ∷ inside = ap (take (n + 1)) t ∙ front_taken (124 ∷ inside) (b ∷ more) (n + 1) (omega (arith, m)) in
      behind_row (124 ∷ bs) (124 ∷ inside) (n + 1) k r BadByte e taken
      (subst (λ x. Row p ts ls q (124 ∷ x) (place_behind q (124 ∷ inside)) BadByte) (sym f) (bad_byte_in_bars inside content b more s d))
  bad_bar bs n k r (bad_escaped inside content b more f m d s) e =
      let t : 124 ∷ bs ≡ (124 ∷ (inside ++ 92 ∷ [])) ++ b ∷ more = ap (λ x. 124 ∷ x) (f ∙ sym (append_assoc inside (92 ∷ []) (b ∷ more))) in
      let taken : take (n + 1) (124 ∷ bs) ≡ 124 ∷ (inside ++ 92 ∷ []) = ap (take (n + 1)) t ∙ front_taken (124 ∷ (inside ++ 92 ∷ [])) (b ∷ more) (n + 1) (omega (arith, m, length-append inside (92 ∷ []))) in
      behind_row (124 ∷ bs) (124 ∷ (inside ++ 92 ∷ [])) (n + 1) k r BadByte e taken
      (subst (λ x. Row p ts ls q (124 ∷ x) (place_behind q (124 ∷ (inside ++ 92 ∷ []))) BadByte) (sym f) (bad_byte_escaped inside content b more s d))

  bar-fault : (bs : List ℕ) (o : Quoted) (k : ℕ) (r : Reason) → quoted_from 124 false 0 bs ≡ o → bar_lexed o bs ≡ Fault k r → Row p ts ls q (124 ∷ bs) (place_behind q (take k (124 ∷ bs))) r
  bar-fault bs Unclosed k r h e = here_row (124 ∷ bs) k r UnclosedString e (bar_row bs (quoted-unclosed 124 bs 0 h))
  bar-fault bs (Bad n) k r h e = bad_bar bs n k r (quoted-bad 124 bs 0 n h) e
  bar-fault bs (Closed n) k r h e =
      let s = quoted-closed 124 bs 0 n h in
      ⊎_elim
      (λ l.
      here_row (124 ∷ bs) k r NameTooLong l.1
      (subst (λ x. Row p ts ls q (124 ∷ x) q NameTooLong) (sym s.front)
      (bar_too_long s.inside s.content s.rest s.is_inside (omega (arith, ltb-true 256 (length (unescaped false (take n bs))) l.0, ap length (content_taken 124 bs n s))))))
      (λ l. absurd (cc))
      (chosen (nat_lt 256 (length (unescaped false (take n bs)))) (Fault 0 NameTooLong) (Taken (n + 2) Bar) (Fault k r) e)

  -- ---- behind `#`

  sharp_row : (bs : List ℕ) (k : ℕ) (r : Reason) → Fault 0 BadSharp ≡ Fault k r → IsBadSharp bs → Row p ts ls q (35 ∷ bs) (place_behind q (take k (35 ∷ bs))) r
  sharp_row bs k r e bad = here_row (35 ∷ bs) k r BadSharp e (bad_sharp bs bad)

  based-fault : (c : ℕ) (cs : List ℕ) (k : ℕ) (r : Reason) (run : Run cs) → (c == 40) ≡ false → (c == 39) ≡ false → (c == 124) ≡ false → (c == 92) ≡ false → based_lexed (base_of c) run.word ≡ Fault k r → Row p ts ls q (35 ∷ c ∷ cs) (place_behind q (take k (35 ∷ c ∷ cs))) r
  based-fault c cs k r run a b d f e =
      ⊎_elim
      (λ base.
      ⊎_elim
      (λ i.
      ⊎_elim
      (λ v. here_row (35 ∷ c ∷ cs) k r IntegerTooWide v.1
      (subst (λ x. Row p ts ls q (35 ∷ c ∷ x) q IntegerTooWide) (sym run.front) (based_too_wide c (base_of c) run.word run.after base (integer_token (base_of c) cs run i.0) i.0 v.0)))
      (λ v. absurd (cc))
      (chosen (is_wide (base_of c) run.word) (Fault 0 IntegerTooWide) (Taken (length run.word + 2) (Integer (integer_value (base_of c) run.word))) (Fault k r) i.1))
      (λ i. sharp_row (c ∷ cs) k r i.1 (subst (λ x. IsBadSharp (c ∷ x)) (sym run.front) (no_digits c (base_of c) run.word run.after base run.all run.ends i.0)))
      (chosen (is_integer (base_of c) run.word) (integer_lexed (base_of c) (length run.word + 2) run.word) (Fault 0 BadSharp) (Fault k r) e))
      (λ none.
      let zero_base : based_lexed (base_of c) run.word ≡ Fault 0 BadSharp = rw (none.0, no_base run.word) refl in
      sharp_row (c ∷ cs) k r (sym zero_base ∙ e) (no_row c cs (rw (a, b, d, f, none.1, none.2, none.3) refl)))
      (base_cases c)

  name-fault : (cs : List ℕ) (k : ℕ) (r : Reason) (run : Run cs) → 1 < length run.word → name_lexed run.word ≡ Fault k r → Row p ts ls q (35 ∷ 92 ∷ cs) (place_behind q (take k (35 ∷ 92 ∷ cs))) r
  name-fault cs k r run n e =
      ⊎_elim
      (λ s. absurd (cc))
      (λ s.
      ⊎_elim
      (λ l. absurd (cc))
      (λ l. sharp_row (92 ∷ cs) k r l.1 (subst (λ x. IsBadSharp (92 ∷ x)) (sym run.front) (no_name run.word run.after (long_run cs run n) n s.0 l.0)))
      (chosen (bytes_eq (map folded run.word) (codes "newline")) (Taken (length run.word + 2) (Character 10)) (Fault 0 BadSharp) (Fault k r) s.1))
      (chosen (bytes_eq (map folded run.word) (codes "space")) (Taken (length run.word + 2) (Character 32)) _ (Fault k r) e)

  character-fault : (cs : List ℕ) (k : ℕ) (r : Reason) → character_lexed cs ≡ Fault k r → Row p ts ls q (35 ∷ 92 ∷ cs) (place_behind q (take k (35 ∷ 92 ∷ cs))) r
  character-fault [] k r e = sharp_row (92 ∷ []) k r e no_character
  character-fault (c ∷ cs) k r e =
      let run = run_of (c ∷ cs) in
      let taken : take (token_run (c ∷ cs)) (c ∷ cs) ≡ run.word = run_taken (c ∷ cs) run in
      ⊎_elim
      (λ h. name-fault (c ∷ cs) k r run (omega (arith, run.count, ltb-true 1 (token_run (c ∷ cs)) h.0)) (ap name_lexed (sym taken) ∙ h.1))
      (λ h. absurd (cc))
      (chosen (nat_lt 1 (token_run (c ∷ cs))) (name_lexed (take (token_run (c ∷ cs)) (c ∷ cs))) (Taken 3 (Character c)) (Fault k r) e)

  sharp-fault : (bs : List ℕ) (k : ℕ) (r : Reason) → begins (λ c. c == 124) bs ≡ false → sharp_lexed bs ≡ Fault k r → Row p ts ls q (35 ∷ bs) (place_behind q (take k (35 ∷ bs))) r
  unfolding sharp_lexed
  sharp-fault [] k r g e = sharp_row [] k r e sharp_ends
  sharp-fault (c ∷ cs) k r g e =
      ⊎_elim
      (λ h. absurd (cc))
      (λ h.
      ⊎_elim
      (λ i. absurd (cc))
      (λ i.
      ⊎_elim
      (λ l. let same : c ≡ 92 = eqb-true c 92 l.0 in rw same (character-fault cs k r l.1))
      (λ l. let run = run_of cs in based-fault c cs k r run h.0 i.0 g l.0 (ap (based_lexed (base_of c)) (sym (run_taken cs run)) ∙ l.1))
      (chosen (c == 92) (character_lexed cs) _ (Fault k r) i.1))
      (chosen (c == 39) (Taken 2 (Open (Before Function))) _ (Fault k r) h.1))
      (chosen (c == 40) (Taken 2 (Open VectorOpening)) _ (Fault k r) e)

  comma-fault : (bs : List ℕ) (k : ℕ) (r : Reason) → comma_lexed bs ≡ Fault k r → ⊥
  comma-fault bs k r e =
      ⊎_elim (λ h. absurd (cc)) (λ h. absurd (cc))
      (chosen (begins (λ c. c == 64) bs) (Taken 2 (Open (Before UnquoteSplicing))) (Taken 1 (Open (Before Unquote))) (Fault k r) e)

  mark-fault : (b : ℕ) (bs : List ℕ) (k : ℕ) (r : Reason) → is_token b ≡ false → is_blank b ≡ false → (b == 59) ≡ false → (b ≡ 35 → begins (λ c. c == 124) bs ≡ false) → mark_lexed b bs ≡ Fault k r → Row p ts ls q (b ∷ bs) (place_behind q (take k (b ∷ bs))) r
  unfolding mark_lexed begins_nothing
  mark-fault b bs k r t g c s e =
      ⊎_elim
      (λ h. absurd (cc))
      (λ h.
      ⊎_elim
      (λ i. absurd (cc))
      (λ i.
      ⊎_elim
      (λ j. absurd (cc))
      (λ j.
      ⊎_elim
      (λ l. absurd (cc))
      (λ l.
      ⊎_elim
      (λ m. absurd (comma-fault bs k r m.1))
      (λ m.
      ⊎_elim
      (λ n. let same : b ≡ 34 = eqb-true b 34 n.0 in rw same (text-fault bs (quoted_from 34 false 0 bs) k r refl n.1))
      (λ n.
      ⊎_elim
      (λ o. let same : b ≡ 124 = eqb-true b 124 o.0 in rw same (bar-fault bs (quoted_from 124 false 0 bs) k r refl o.1))
      (λ o.
      ⊎_elim
      (λ u. let same : b ≡ 35 = eqb-true b 35 u.0 in rw same (sharp-fault bs k r (s same) u.1))
      (λ u. here_row (b ∷ bs) k r BadByte u.1 (bad_byte b bs (rw (t, g, h.0, i.0, n.0, j.0, m.0, c, u.0, o.0, l.0) refl)))
      (chosen (b == 35) (sharp_lexed bs) (Fault 0 BadByte) (Fault k r) o.1))
      (chosen (b == 124) (bar_lexed (quoted_from 124 false 0 bs) bs) _ (Fault k r) n.1))
      (chosen (b == 34) (text_lexed (quoted_from 34 false 0 bs)) _ (Fault k r) m.1))
      (chosen (b == 44) (comma_lexed bs) _ (Fault k r) l.1))
      (chosen (b == 96) (Taken 1 (Open (Before Quasiquote))) _ (Fault k r) j.1))
      (chosen (b == 39) (Taken 1 (Open (Before Quote))) _ (Fault k r) i.1))
      (chosen (b == 41) (Taken 1 Close) _ (Fault k r) h.1))
      (chosen (b == 40) (Taken 1 (Open ListOpening)) _ (Fault k r) e)

-- a fault that the code finds in a text that begins with no gap is a row
pub fault-row : (text : List ℕ) (k : ℕ) (r : Reason) → 0 < length text → skip Between 0 0 text ≡ Ends 0
    → lex text ≡ Fault k r → (p : Place) (ts : Trees) (ls : List Level) (q : Place)
    → Row p ts ls q text (place_behind q (take k text)) r
unfolding lex
fault-row [] k r some no_gap h p ts ls q = absurd (omega (arith, some))
fault-row (b ∷ bs) k r some no_gap h p ts ls q =
    let run = run_of (b ∷ bs) in
    let g = no-gap b bs no_gap in
    ⊎_elim
    (λ t. token-fault p ts ls q (b ∷ bs) run.word run.after k r run.front (run_is_token b bs run t.0) (ap token_lexed (sym (run_taken (b ∷ bs) run)) ∙ t.1))
    (λ t. mark-fault p ts ls q b bs k r t.0 g.no_blank g.no_line g.no_block t.1)
    (chosen (is_token b) (token_lexed (take (token_run (b ∷ bs)) (b ∷ bs))) (mark_lexed b bs) (Fault k r) h)
