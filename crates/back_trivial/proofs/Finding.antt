-- At each line of a tree that finds its frame, the frame is found, and the landings of the records that stand have these records and those outside.
use Rattle.std.proofs.Common.{◌≡◌, ℕ, zero, suc, ◌+◌, ◌<◌, true, ◌&&◌, List, [], ◌∷◌, ◌++◌, length, Some, refl, sym, ap, ◌∙◌, subst, arith}
use Rattle.std.specs.Prelude.{slice_get}
use Rattle.std.proofs.lemmas.Bool.Decides.{nat_tests}
use Rattle.mid_code.specs.Arena.{header_words}
use Rattle.mid_code.specs.MidCode.{MidStep, perform, choose, switch, repeat, with_block, lend, return_word, cut_to, halt_with, end_unhandled, MidCode, no_step, step_and, MidCodes, no_code, code_and}
use Rattle.mid_lines.specs.declared.line.Line.{Line}
use Rattle.mid_lines.specs.declared.line.Line.TheVariants.{Do, Jump, GiveBack, Return, Cut, Halt, Unhandled}
use Rattle.mid_lines.specs.Flattened.{step_line_count, line_count, step_lines, code_lines, codes_lines}
use Rattle.mid_lines.specs.StaticRecords.{StaticRecord, of_landing, only_lent, step_records, code_records, codes_records, records_in}
use Rattle.mid_lines.proofs.Conjunctions.{front_true, back_true}
use Rattle.mid_lines.proofs.Lying.{HasAt, has_front, has_back, step_length, code_length}
use Rattle.back_places.specs.Places.{Way, way_of, past_record, past_block, reachable, is_from_stack}
use Rattle.back_trivial.specs.KnownRecords.{known_records}
use Rattle.back_trivial.specs.FrameFound.{reaches_all, step_finds, code_finds, codes_find}
use Rattle.back_trivial.proofs.Counting.{code_count, step_count}

module _ (all : List (List StaticRecord)) (registers frame : ℕ) where
  -- the records at a line
  abbrev pub at : ℕ → List StaticRecord
  at n = records_in (slice_get all n)

  -- at the landing of each of these records, it and those outside it stand
  abbrev pub LandingsHave : List StaticRecord → Type 0
  LandingsHave [] = Unit {0}
  LandingsHave (of_landing words landing ∷ records) = (at landing ≡ of_landing words landing ∷ records) × LandingsHave records
  LandingsHave (only_lent ∷ records) = LandingsHave records

  -- inside of these records, which are a way, the frame is found
  pub record Inside (records : List StaticRecord) (way : Way) : Type 0 where
    pub way_is : way_of (known_records records) ≡ way
    pub within : registers < reachable way frame
    pub landings : LandingsHave records

  abbrev pub ReturnFinds : Way → Line → Type 0
  ReturnFinds way (Return r) = is_from_stack way ≡ true
  ReturnFinds way x = Unit {0}

  -- so it is at a line
  pub record LineFinds (n : ℕ) (x : Line) : Type 0 where
    pub way : Way
    pub inside : Inside (at n) way
    pub returns : ReturnFinds way x

  -- and at each of these, from a line on
  abbrev pub AllFind : ℕ → List Line → Type 0
  AllFind n [] = Unit {0}
  AllFind n (x ∷ xs) = LineFinds n x × AllFind (n + 1) xs

  appended_find : (n m : ℕ) (xs ys : List Line) → length xs ≡ m → AllFind n xs → AllFind (n + m) ys → AllFind n (xs ++ ys)
  appended_find n m [] ys e h k = let same : n + m ≡ n = omega arith in subst (λ i. AllFind i ys) same k
  appended_find n m (x ∷ xs) ys e h k =
      let same : n + m ≡ n + 1 + length xs = omega (arith, e) in
      (h.0, appended_find (n + 1) (length xs) xs ys refl h.1 (subst (λ i. AllFind i ys) same k))

  pub find_at : (n i : ℕ) (xs : List Line) (x : Line) → AllFind n xs → slice_get xs i ≡ Some x → LineFinds (n + i) x
  find_at n i [] x h e = absurd (cc e)
  find_at n zero (y ∷ ys) x h e =
      let same : n ≡ n + 0 = omega arith in
      let is_it : y ≡ x = cc e in
      subst (λ i. LineFinds i x) same (subst (λ l. LineFinds n l) is_it h.0)
  find_at n (suc i) (y ∷ ys) x h e =
      let same : n + 1 + i ≡ n + suc i = omega arith in
      subst (λ k. LineFinds k x) same (find_at (n + 1) i ys x h.1 e)

  -- a line whose records are these
  here : (n : ℕ) (records : List StaticRecord) (way : Way) (x : Line) → slice_get all n ≡ Some records → Inside records way → ReturnFinds way x → LineFinds n x
  here n records way x e i r =
      let same : at n ≡ records = ap records_in e in
      record { way = way; inside = subst (λ rs. Inside rs way) (sym same) i; returns = r }

  pub reached : (way : Way) → reaches_all registers frame way ≡ true → registers < reachable way frame
  reached way h = grind (arith, nat_tests, h)

  inside_record :
      (words landing : ℕ) (outer : List StaticRecord) (way : Way) → Inside outer way → at landing ≡ of_landing words landing ∷ outer
      → reaches_all registers frame (past_record (words + header_words) way) ≡ true
      → Inside (of_landing words landing ∷ outer) (past_record (words + header_words) way)
  inside_record words landing outer way i e h = record {
    way_is = ap (λ w. past_record (words + header_words) w) i.way_is;
    within = reached (past_record (words + header_words) way) h;
    landings = (e, i.landings);
  }

  inside_lent :
      (outer : List StaticRecord) (way : Way) → Inside outer way → reaches_all registers frame (past_block way) ≡ true
      → Inside (only_lent ∷ outer) (past_block way)
  inside_lent outer way i h = record { way_is = ap past_block i.way_is; within = reached (past_block way) h; landings = i.landings }

  mutual
    step_find :
        (s : MidStep) (n : ℕ) (outer : List StaticRecord) (way : Way) → HasAt all n (step_records n s outer) → Inside outer way
        → step_finds registers frame way s ≡ true → AllFind n (step_lines n s)
    step_find (perform o) n outer way h i t = (here n outer way (Do o) h.0 i tt, tt)
    step_find (choose test first second) n outer way h i t =
        let j = n + 1 + line_count first in
        let k = j + 1 + line_count second in
        let f = code_finds registers frame way first in
        let s = code_finds registers frame way second in
        let front = has_front all (n + 1) (code_records (n + 1) first outer) _ h.1 in
        let a = has_back all (n + 1) (line_count first) (code_records (n + 1) first outer) _ (code_count first (n + 1) outer) h.1 in
        let front' = has_front all (j + 1) (code_records (j + 1) second outer) _ a.1 in
        let b = has_back all (j + 1) (line_count second) (code_records (j + 1) second outer) _ (code_count second (j + 1) outer) a.1 in (
          here n outer way _ h.0 i tt,
          appended_find (n + 1) (line_count first) (code_lines (n + 1) first) _ (code_length first (n + 1))
              (code_find first (n + 1) outer way front i (front_true f s t)) (
                here j outer way _ a.0 i tt,
                appended_find (j + 1) (line_count second) (code_lines (j + 1) second) _ (code_length second (j + 1))
                    (code_find second (j + 1) outer way front' i (back_true f s t)) (here k outer way _ b.0 i tt, tt),
              ),
        )
    step_find (switch r codes) n outer way h i t =
        (here n outer way _ h.0 i tt, codes_find_each codes (n + 1) (n + step_line_count (switch r codes)) outer way h.1 i t)
    step_find (repeat counted head test body) n outer way h i t =
        let j = n + line_count head in
        let k = j + 1 + line_count body in
        let f = code_finds registers frame way head in
        let s = code_finds registers frame way body in
        let front = has_front all n (code_records n head outer) _ h in
        let a = has_back all n (line_count head) (code_records n head outer) _ (code_count head n outer) h in
        let front' = has_front all (j + 1) (code_records (j + 1) body outer) _ a.1 in
        let b = has_back all (j + 1) (line_count body) (code_records (j + 1) body outer) _ (code_count body (j + 1) outer) a.1 in
        appended_find n (line_count head) (code_lines n head) _ (code_length head n) (code_find head n outer way front i (front_true f s t)) (
          here j outer way _ a.0 i tt,
          appended_find (j + 1) (line_count body) (code_lines (j + 1) body) _ (code_length body (j + 1))
              (code_find body (j + 1) outer way front' i (back_true f s t)) (here k outer way _ b.0 i tt, tt),
        )
    step_find (with_block block words word inside landing) n outer way h i t =
        let j = n + 1 + line_count inside in
        let k = j + 3 + line_count landing in
        let two : j + 1 + 1 ≡ j + 2 = omega arith in
        let three : j + 1 + 1 + 1 ≡ j + 3 = omega arith in
        let own : List StaticRecord = of_landing words (j + 2) ∷ outer in
        let past : Way = past_record (words + header_words) way in
        let r = reaches_all registers frame past in
        let f = code_finds registers frame past inside in
        let s = code_finds registers frame past landing in
        let both = back_true r (f && s) t in
        let front = has_front all (n + 1) (code_records (n + 1) inside own) _ h.1 in
        let a = has_back all (n + 1) (line_count inside) (code_records (n + 1) inside own) _ (code_count inside (n + 1) own) h.1 in
        let c = subst (λ m. HasAt all m (code_records (j + 3) landing own ++ own ∷ [])) three a.1.1.1 in
        let front' = has_front all (j + 3) (code_records (j + 3) landing own) _ c in
        let b = has_back all (j + 3) (line_count landing) (code_records (j + 3) landing own) _ (code_count landing (j + 3) own) c in
        let i' = inside_record words (j + 2) outer way i (ap at (sym two) ∙ ap records_in a.1.1.0) (front_true r (f && s) t) in
        let landing_finds : AllFind (j + 3) (code_lines (j + 3) landing ++ GiveBack words ∷ []) =
        appended_find (j + 3) (line_count landing) (code_lines (j + 3) landing) _ (code_length landing (j + 3))
        (code_find landing (j + 3) own past front' i' (back_true f s both)) (here k own past (GiveBack words) b.0 i' tt, tt) in (
          here n outer way _ h.0 i tt,
          appended_find (n + 1) (line_count inside) (code_lines (n + 1) inside) _ (code_length inside (n + 1))
              (code_find inside (n + 1) own past front i' (front_true f s both)) (
                here j own past _ a.0 i' tt,
                (
                  here (j + 1) outer way _ a.1.0 i tt,
                  (
                    here (j + 1 + 1) own past _ a.1.1.0 i' tt,
                    subst (λ m. AllFind m (code_lines (j + 3) landing ++ GiveBack words ∷ [])) (sym three) landing_finds,
                  ),
                ),
              ),
        )
    step_find (lend block words inside) n outer way h i t =
        let j = n + 1 + line_count inside in
        let own : List StaticRecord = only_lent ∷ outer in
        let r = reaches_all registers frame (past_block way) in
        let f = code_finds registers frame (past_block way) inside in
        let front = has_front all (n + 1) (code_records (n + 1) inside own) _ h.1 in
        let a = has_back all (n + 1) (line_count inside) (code_records (n + 1) inside own) _ (code_count inside (n + 1) own) h.1 in
        let i' = inside_lent outer way i (front_true r f t) in (
          here n outer way _ h.0 i tt,
          appended_find (n + 1) (line_count inside) (code_lines (n + 1) inside) _ (code_length inside (n + 1))
              (code_find inside (n + 1) own (past_block way) front i' (back_true r f t)) (here j own (past_block way) _ a.0 i' tt, tt),
        )
    step_find (return_word r) n outer way h i t = (here n outer way (Return r) h.0 i t, tt)
    step_find (cut_to block word) n outer way h i t = (here n outer way (Cut block word) h.0 i tt, tt)
    step_find (halt_with r) n outer way h i t = (here n outer way (Halt r) h.0 i tt, tt)
    step_find (end_unhandled class site condition) n outer way h i t = (here n outer way (Unhandled class site condition) h.0 i tt, tt)

    pub code_find :
        (c : MidCode) (n : ℕ) (outer : List StaticRecord) (way : Way) → HasAt all n (code_records n c outer) → Inside outer way
        → code_finds registers frame way c ≡ true → AllFind n (code_lines n c)
    code_find no_step n outer way h i t = tt
    code_find (step_and s c) n outer way h i t =
        let a = step_finds registers frame way s in
        let b = code_finds registers frame way c in
        let rest = has_back all n (step_line_count s) (step_records n s outer) _ (step_count s n outer) h in
        appended_find n (step_line_count s) (step_lines n s) _ (step_length s n)
        (step_find s n outer way (has_front all n (step_records n s outer) _ h) i (front_true a b t))
        (code_find c (n + step_line_count s) outer way rest i (back_true a b t))

    codes_find_each :
        (codes : MidCodes) (n end : ℕ) (outer : List StaticRecord) (way : Way) → HasAt all n (codes_records n codes outer) → Inside outer way
        → codes_find registers frame way codes ≡ true → AllFind n (codes_lines n end codes)
    codes_find_each no_code n end outer way h i t = tt
    codes_find_each (code_and c codes) n end outer way h i t =
        let f = code_finds registers frame way c in
        let s = codes_find registers frame way codes in
        let a = has_back all n (line_count c) (code_records n c outer) _ (code_count c n outer) h in
        appended_find n (line_count c) (code_lines n c) _ (code_length c n)
        (code_find c n outer way (has_front all n (code_records n c outer) _ h) i (front_true f s t))
        (here (n + line_count c) outer way (Jump end) a.0 i tt, codes_find_each codes (n + line_count c + 1) end outer way a.1 i (back_true f s t))
