-- The records of a tree go along with its lines.
use Rattle.std.proofs.Common.{◌≡◌, ℕ, zero, suc, ◌+◌, ◌≤◌, List, [], ◌∷◌, ◌++◌, length, Option, Some, None, option_map, refl, sym, ap, ◌∙◌, subst, arith, length-append}
use Rattle.std.specs.Prelude.{slice_get}
use Rattle.std.proofs.lemmas.Option.{slice_get_past}
use Rattle.mid_code.specs.declared.program.MidProcedure.{MidProcedure}
use Rattle.mid_code.specs.MidCode.{MidStep, perform, choose, switch, repeat, with_block, lend, return_word, cut_to, halt_with, end_unhandled, MidCode, no_step, step_and, MidCodes, no_code, code_and, code_of}
use Rattle.mid_lines.specs.declared.line.Line.{Line}
use Rattle.mid_lines.specs.declared.line.Line.TheVariants.{GiveBack}
use Rattle.mid_lines.specs.Lines.{lines_in}
use Rattle.mid_lines.specs.Flattened.{step_line_count, line_count, codes_line_count, code_targets, step_lines, code_lines, codes_lines, procedure_lines}
use Rattle.mid_lines.specs.StaticRecords.{StaticRecord, of_landing, only_lent, step_records, code_records, codes_records, records_in, procedure_records, LineFlows, LawOfRecords}
use Rattle.mid_lines.proofs.Lying.{HasAt, has_front, has_back, has_all, step_length, code_length}
use Rattle.mid_lines.proofs.Following.{procedure_at}

-- there are as many of them as there are lines

choice_count : {X : Type 0} (a b : List X) (m n : ℕ) (x y z : X) → length a ≡ m → length b ≡ n → length (x ∷ (a ++ (y ∷ (b ++ z ∷ [])))) ≡ 1 + m + 1 + n + 1
choice_count a b m n x y z e f = omega (arith, e, f, length-append a (y ∷ (b ++ z ∷ [])), length-append b (z ∷ []))

loop_count : {X : Type 0} (a b : List X) (m n : ℕ) (x y : X) → length a ≡ m → length b ≡ n → length (a ++ (x ∷ (b ++ y ∷ []))) ≡ m + 1 + n + 1
loop_count a b m n x y e f = omega (arith, e, f, length-append a (x ∷ (b ++ y ∷ [])), length-append b (y ∷ []))

record_count :
    {X : Type 0} (a b : List X) (m n : ℕ) (v w x y z : X) → length a ≡ m → length b ≡ n
    → length (v ∷ (a ++ (w ∷ x ∷ y ∷ (b ++ z ∷ [])))) ≡ 1 + m + 3 + n + 1
record_count a b m n v w x y z e f = omega (arith, e, f, length-append a (w ∷ x ∷ y ∷ (b ++ z ∷ [])), length-append b (z ∷ []))

lent_count : {X : Type 0} (a : List X) (m : ℕ) (x y : X) → length a ≡ m → length (x ∷ (a ++ y ∷ [])) ≡ 1 + m + 1
lent_count a m x y e = omega (arith, e, length-append a (y ∷ []))

mutual
  step_count : (s : MidStep) (at : ℕ) (outer : List StaticRecord) → length (step_records at s outer) ≡ step_line_count s
  step_count (choose t first second) at outer =
      choice_count (code_records (at + 1) first outer) (code_records (at + 1 + line_count first + 1) second outer) (line_count first) (line_count second) outer outer outer
      (code_count first (at + 1) outer) (code_count second (at + 1 + line_count first + 1) outer)
  step_count (switch r codes) at outer = omega (arith, codes_count codes (at + 1) outer)
  step_count (repeat counted head t body) at outer =
      loop_count (code_records at head outer) (code_records (at + line_count head + 1) body outer) (line_count head) (line_count body) outer outer
      (code_count head at outer) (code_count body (at + line_count head + 1) outer)
  step_count (with_block block words word inside landing) at outer =
      let own : List StaticRecord = of_landing words (at + 1 + line_count inside + 2) ∷ outer in
      record_count (code_records (at + 1) inside own) (code_records (at + 1 + line_count inside + 3) landing own) (line_count inside) (line_count landing)
      outer own outer own own (code_count inside (at + 1) own) (code_count landing (at + 1 + line_count inside + 3) own)
  step_count (lend block words inside) at outer =
      lent_count (code_records (at + 1) inside (only_lent ∷ outer)) (line_count inside) outer (only_lent ∷ outer) (code_count inside (at + 1) (only_lent ∷ outer))
  step_count s at outer = refl

  code_count : (c : MidCode) (at : ℕ) (outer : List StaticRecord) → length (code_records at c outer) ≡ line_count c
  code_count no_step at outer = refl
  code_count (step_and s c) at outer =
      omega (
        arith,
        step_count s at outer,
        code_count c (at + step_line_count s) outer,
        length-append (step_records at s outer) (code_records (at + step_line_count s) c outer),
      )

  codes_count : (codes : MidCodes) (at : ℕ) (outer : List StaticRecord) → length (codes_records at codes outer) ≡ codes_line_count codes
  codes_count no_code at outer = refl
  codes_count (code_and c codes) at outer =
      omega (
        arith,
        code_count c at outer,
        codes_count codes (at + line_count c + 1) outer,
        length-append (code_records at c outer) (outer ∷ codes_records (at + line_count c + 1) codes outer),
      )

module _ (all : List (List StaticRecord)) where
  -- the records at a line
  abbrev at : ℕ → List StaticRecord
  at n = records_in (slice_get all n)

  -- these lines, from a line on, go along with them
  abbrev AllFlow : ℕ → List Line → Type 0
  AllFlow n [] = Unit {0}
  AllFlow n (x ∷ xs) = LineFlows at n x × AllFlow (n + 1) xs

  appended_flow : (n m : ℕ) (xs ys : List Line) → length xs ≡ m → AllFlow n xs → AllFlow (n + m) ys → AllFlow n (xs ++ ys)
  appended_flow n m [] ys e h k = let same : n + m ≡ n = omega arith in subst (λ i. AllFlow i ys) same k
  appended_flow n m (x ∷ xs) ys e h k =
      let same : n + m ≡ n + 1 + length xs = omega (arith, e) in
      (h.0, appended_flow (n + 1) (length xs) xs ys refl h.1 (subst (λ i. AllFlow i ys) same k))

  flow_at : (n i : ℕ) (xs : List Line) (x : Line) → AllFlow n xs → slice_get xs i ≡ Some x → LineFlows at (n + i) x
  flow_at n i [] x h e = absurd (cc e)
  flow_at n zero (y ∷ ys) x h e =
      let same : n ≡ n + 0 = omega arith in
      let is_it : y ≡ x = cc e in
      subst (λ i. LineFlows at i x) same (subst (λ l. LineFlows at n l) is_it h.0)
  flow_at n (suc i) (y ∷ ys) x h e =
      let same : n + 1 + i ≡ n + suc i = omega arith in
      subst (λ k. LineFlows at k x) same (flow_at (n + 1) i ys x h.1 e)

  -- the first line of code inside of other records, or the line behind it, has those alone
  mutual
    step_begins : (s : MidStep) (n : ℕ) (outer : List StaticRecord) → HasAt all n (step_records n s outer) → at n ≡ outer
    step_begins (repeat counted head t body) n outer h =
        let a = has_back all n (line_count head) (code_records n head outer) _ (code_count head n outer) h in
        code_begins head n outer (has_front all n (code_records n head outer) _ h) (ap records_in a.0)
    step_begins (perform o) n outer h = ap records_in h.0
    step_begins (choose t first second) n outer h = ap records_in h.0
    step_begins (switch r codes) n outer h = ap records_in h.0
    step_begins (with_block block words word inside landing) n outer h = ap records_in h.0
    step_begins (lend block words inside) n outer h = ap records_in h.0
    step_begins (return_word r) n outer h = ap records_in h.0
    step_begins (cut_to block word) n outer h = ap records_in h.0
    step_begins (halt_with r) n outer h = ap records_in h.0
    step_begins (end_unhandled class site condition) n outer h = ap records_in h.0

    code_begins : (c : MidCode) (n : ℕ) (outer : List StaticRecord) → HasAt all n (code_records n c outer) → at (n + line_count c) ≡ outer → at n ≡ outer
    code_begins no_step n outer h e = let same : n ≡ n + 0 = omega arith in ap at same ∙ e
    code_begins (step_and s c) n outer h e = step_begins s n outer (has_front all n (step_records n s outer) _ h)

  -- the codes of a switch begin so too
  targets_begin :
      (codes : MidCodes) (n : ℕ) (outer : List StaticRecord) → HasAt all n (codes_records n codes outer)
      → (i to : ℕ) → slice_get (code_targets n codes) i ≡ Some to → at to ≡ outer
  targets_begin no_code n outer h i to e = absurd (cc e)
  targets_begin (code_and c codes) n outer h zero to e =
      let a = has_back all n (line_count c) (code_records n c outer) _ (code_count c n outer) h in
      let is_it : n ≡ to = cc e in
      ap at (sym is_it) ∙ code_begins c n outer (has_front all n (code_records n c outer) _ h) (ap records_in a.0)
  targets_begin (code_and c codes) n outer h (suc i) to e =
      let a = has_back all n (line_count c) (code_records n c outer) _ (code_count c n outer) h in
      targets_begin codes (n + line_count c + 1) outer a.1 i to e

  mutual
    step_flow : (s : MidStep) (n : ℕ) (outer : List StaticRecord) → HasAt all n (step_records n s outer) → at (n + step_line_count s) ≡ outer → AllFlow n (step_lines n s)
    step_flow (perform o) n outer h e = (e ∙ sym (ap records_in h.0), tt)
    step_flow (choose t first second) n outer h e =
        let i = n + 1 + line_count first in
        let j = i + 1 + line_count second in
        let front = has_front all (n + 1) (code_records (n + 1) first outer) _ h.1 in
        let a = has_back all (n + 1) (line_count first) (code_records (n + 1) first outer) _ (code_count first (n + 1) outer) h.1 in
        let front' = has_front all (i + 1) (code_records (i + 1) second outer) _ a.1 in
        let b = has_back all (i + 1) (line_count second) (code_records (i + 1) second outer) _ (code_count second (i + 1) outer) a.1 in
        let here : at n ≡ outer = ap records_in h.0 in
        let at_i : at i ≡ outer = ap records_in a.0 in
        let at_j : at j ≡ outer = ap records_in b.0 in (
          (code_begins first (n + 1) outer front at_i ∙ sym here, code_begins second (i + 1) outer front' at_j ∙ sym here),
          appended_flow (n + 1) (line_count first) (code_lines (n + 1) first) _ (code_length first (n + 1)) (code_flow first (n + 1) outer front at_i) (
            e ∙ sym at_i,
            appended_flow (i + 1) (line_count second) (code_lines (i + 1) second) _ (code_length second (i + 1)) (code_flow second (i + 1) outer front' at_j)
                (e ∙ sym at_j, tt),
          ),
        )
    step_flow (switch r codes) n outer h e =
        let here : at n ≡ outer = ap records_in h.0 in (
          λ i to f. targets_begin codes (n + 1) outer h.1 i to f ∙ sym here,
          codes_flow codes (n + 1) (n + step_line_count (switch r codes)) outer h.1 e,
        )
    step_flow (repeat counted head t body) n outer h e =
        let i = n + line_count head in
        let j = i + 1 + line_count body in
        let front = has_front all n (code_records n head outer) _ h in
        let a = has_back all n (line_count head) (code_records n head outer) _ (code_count head n outer) h in
        let front' = has_front all (i + 1) (code_records (i + 1) body outer) _ a.1 in
        let b = has_back all (i + 1) (line_count body) (code_records (i + 1) body outer) _ (code_count body (i + 1) outer) a.1 in
        let at_i : at i ≡ outer = ap records_in a.0 in
        let at_j : at j ≡ outer = ap records_in b.0 in
        appended_flow n (line_count head) (code_lines n head) _ (code_length head n) (code_flow head n outer front at_i) (
          (code_begins body (i + 1) outer front' at_j ∙ sym at_i, e ∙ sym at_i),
          appended_flow (i + 1) (line_count body) (code_lines (i + 1) body) _ (code_length body (i + 1)) (code_flow body (i + 1) outer front' at_j)
              (code_begins head n outer front at_i ∙ sym at_j, tt),
        )
    step_flow (with_block block words word inside landing) n outer h e =
        let i = n + 1 + line_count inside in
        let j = i + 3 + line_count landing in
        let two : i + 1 + 1 ≡ i + 2 = omega arith in
        let three : i + 1 + 1 + 1 ≡ i + 3 = omega arith in
        let last : n + step_line_count (with_block block words word inside landing) ≡ j + 1 = omega arith in
        let r : StaticRecord = of_landing words (i + 2) in
        let own : List StaticRecord = r ∷ outer in
        let front = has_front all (n + 1) (code_records (n + 1) inside own) _ h.1 in
        let a = has_back all (n + 1) (line_count inside) (code_records (n + 1) inside own) _ (code_count inside (n + 1) own) h.1 in
        let c = subst (λ k. HasAt all k (code_records (i + 3) landing own ++ own ∷ [])) three a.1.1.1 in
        let front' = has_front all (i + 3) (code_records (i + 3) landing own) _ c in
        let b = has_back all (i + 3) (line_count landing) (code_records (i + 3) landing own) _ (code_count landing (i + 3) own) c in
        let here : at n ≡ outer = ap records_in h.0 in
        let at_i : at i ≡ own = ap records_in a.0 in
        let at_jump : at (i + 1) ≡ outer = ap records_in a.1.0 in
        let at_landing : at (i + 1 + 1) ≡ own = ap records_in a.1.1.0 in
        let at_j : at j ≡ own = ap records_in b.0 in
        let behind : at (j + 1) ≡ outer = ap at (sym last) ∙ e in
        let landed : at (i + 1 + 1 + 1) ≡ own = ap at three ∙ code_begins landing (i + 3) own front' at_j in
        let landing_flows : AllFlow (i + 3) (code_lines (i + 3) landing ++ GiveBack words ∷ []) =
        appended_flow (i + 3) (line_count landing) (code_lines (i + 3) landing) _ (code_length landing (i + 3)) (code_flow landing (i + 3) own front' at_j)
        ((i + 2, at_j ∙ ap (λ l. r ∷ l) (sym behind)), tt) in (
          (code_begins inside (n + 1) own front at_i ∙ ap (λ l. r ∷ l) (sym here), ap at (sym two) ∙ at_landing ∙ ap (λ l. r ∷ l) (sym here)),
          appended_flow (n + 1) (line_count inside) (code_lines (n + 1) inside) _ (code_length inside (n + 1)) (code_flow inside (n + 1) own front at_i) (
            (i + 2, at_i ∙ ap (λ l. r ∷ l) (sym at_jump)),
            (e ∙ sym at_jump, (landed ∙ sym at_landing, subst (λ k. AllFlow k (code_lines (i + 3) landing ++ GiveBack words ∷ [])) (sym three) landing_flows)),
          ),
        )
    step_flow (lend block words inside) n outer h e =
        let i = n + 1 + line_count inside in
        let last : n + step_line_count (lend block words inside) ≡ i + 1 = omega arith in
        let own : List StaticRecord = only_lent ∷ outer in
        let front = has_front all (n + 1) (code_records (n + 1) inside own) _ h.1 in
        let a = has_back all (n + 1) (line_count inside) (code_records (n + 1) inside own) _ (code_count inside (n + 1) own) h.1 in
        let here : at n ≡ outer = ap records_in h.0 in
        let at_i : at i ≡ own = ap records_in a.0 in
        let behind : at (i + 1) ≡ outer = ap at (sym last) ∙ e in (
          code_begins inside (n + 1) own front at_i ∙ ap (λ l. only_lent ∷ l) (sym here),
          appended_flow (n + 1) (line_count inside) (code_lines (n + 1) inside) _ (code_length inside (n + 1)) (code_flow inside (n + 1) own front at_i)
              (at_i ∙ ap (λ l. only_lent ∷ l) (sym behind), tt),
        )
    step_flow (return_word r) n outer h e = (tt, tt)
    step_flow (cut_to block word) n outer h e = (tt, tt)
    step_flow (halt_with r) n outer h e = (tt, tt)
    step_flow (end_unhandled class site condition) n outer h e = (tt, tt)

    code_flow : (c : MidCode) (n : ℕ) (outer : List StaticRecord) → HasAt all n (code_records n c outer) → at (n + line_count c) ≡ outer → AllFlow n (code_lines n c)
    code_flow no_step n outer h e = tt
    code_flow (step_and s c) n outer h e =
        let same : n + step_line_count s + line_count c ≡ n + (step_line_count s + line_count c) = omega arith in
        let rest = has_back all n (step_line_count s) (step_records n s outer) _ (step_count s n outer) h in
        let end = ap at same ∙ e in
        appended_flow n (step_line_count s) (step_lines n s) _ (step_length s n)
        (step_flow s n outer (has_front all n (step_records n s outer) _ h) (code_begins c (n + step_line_count s) outer rest end))
        (code_flow c (n + step_line_count s) outer rest end)

    codes_flow :
        (codes : MidCodes) (n end : ℕ) (outer : List StaticRecord) → HasAt all n (codes_records n codes outer) → at end ≡ outer
        → AllFlow n (codes_lines n end codes)
    codes_flow no_code n end outer h e = tt
    codes_flow (code_and c codes) n end outer h e =
        let a = has_back all n (line_count c) (code_records n c outer) _ (code_count c n outer) h in
        let here : at (n + line_count c) ≡ outer = ap records_in a.0 in
        appended_flow n (line_count c) (code_lines n c) _ (code_length c n) (code_flow c n outer (has_front all n (code_records n c outer) _ h) here)
        (e ∙ sym here, codes_flow codes (n + line_count c + 1) end outer a.1 e)

-- the lines of a procedure
lines_flow :
    (line : ℕ) (x : Line) (o : Option MidProcedure) → slice_get (lines_in (option_map procedure_lines o)) line ≡ Some x
    → LineFlows (λ n. records_in (slice_get (procedure_records o) n)) line x
lines_flow line x None e = absurd (cc e)
lines_flow line x (Some p) e =
    let c = code_of p.body in
    let all = code_records 0 c [] in
    let past : length all ≤ 0 + line_count c = omega (arith, code_count c 0 []) in
    let flow = code_flow all c 0 [] (has_all all []) (ap records_in (slice_get_past all (0 + line_count c) past)) in
    let same : 0 + line ≡ line = omega arith in
    subst (λ n. LineFlows (at all) n x) same (flow_at all 0 line (code_lines 0 c) x flow e)

-- where a procedure is entered, no record stands
entry_flows : (o : Option MidProcedure) → records_in (slice_get (procedure_records o) 0) ≡ []
entry_flows None = refl
entry_flows (Some p) =
    let c = code_of p.body in
    let all = code_records 0 c [] in
    let past : length all ≤ 0 + line_count c = omega (arith, code_count c 0 []) in
    code_begins all c 0 [] (has_all all []) (ap records_in (slice_get_past all (0 + line_count c) past))

pub law_of_records : LawOfRecords
law_of_records program = record {
  entry = λ number. entry_flows (slice_get program.procedures number);
  lines = λ number line x e.
      lines_flow line x (slice_get program.procedures number)
      (ap (λ o. slice_get (lines_in o) line) (sym (procedure_at program number (slice_get program.procedures number) refl)) ∙ e);
}
