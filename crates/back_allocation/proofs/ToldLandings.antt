-- The lines of a tree tell the landings of its records.
use Rattle.std.proofs.Common.{◌≡◌, ℕ, zero, suc, ◌+◌, List, [], ◌∷◌, ◌++◌, drop, map, Some, refl, sym, ap, ◌∙◌, arith, append_assoc}
use Rattle.std.specs.Prelude.{slice_get, slice_index_or}
use Rattle.std.proofs.lemmas.List.{map-append, append-nil}
use Rattle.mid_code.specs.declared.program.MidProcedure.{MidProcedure}
use Rattle.mid_code.specs.MidCode.{MidStep, perform, choose, switch, repeat, with_block, lend, return_word, cut_to, halt_with, end_unhandled, MidCode, no_step, step_and, MidCodes, no_code, code_and, code_of}
use Rattle.mid_lines.specs.declared.line.Line.{Line}
use Rattle.mid_lines.specs.declared.line.Line.TheVariants.{Do, Branch, Switch, Jump, Lay, Landed, GiveBack, Lend, GiveBackLent, Return, Cut, Halt, Unhandled}
use Rattle.mid_lines.specs.Flattened.{step_line_count, line_count, codes_line_count, step_lines, code_lines, codes_lines, code_targets}
use Rattle.mid_lines.specs.StaticRecords.{StaticRecord, of_landing, only_lent, step_records, code_records, codes_records, records_in, procedure_records}
use Rattle.back_allocation.proofs.Stepping.{drop_there}
use Rattle.back_allocation.specs.StandingLandings.{landings_at, landings_behind, line_landings, record_landings, tree_landings, LawOfLandings}

abbrev told : List StaticRecord → List ℕ
told = record_landings

-- the lines from a line on tell the landings of these records, and what is behind them begins with these landings
abbrev Tells : (at : ℕ) (here : List ℕ) (lines : List Line) (records : List (List StaticRecord)) (to : ℕ) (behind : List ℕ) → Type 0
Tells at here lines records to behind =
    (rest : List Line) → line_landings at here (lines ++ rest) ≡ map told records ++ line_landings to behind rest

at_place : (at from : ℕ) (here : List ℕ) (lines : List Line) (records : List (List StaticRecord)) (to : ℕ) (behind : List ℕ) → at ≡ from
    → Tells from here lines records to behind → Tells at here lines records to behind
at_place at from here lines records to behind e t rest = ap (λ n. line_landings n here (lines ++ rest)) e ∙ t rest

up_to : (at : ℕ) (here : List ℕ) (lines : List Line) (records : List (List StaticRecord)) (end to : ℕ) (behind : List ℕ) → end ≡ to
    → Tells at here lines records end behind → Tells at here lines records to behind
up_to at here lines records end to behind e t rest = t rest ∙ ap (λ n. map told records ++ line_landings n behind rest) e

both : (at : ℕ) (here : List ℕ) (xs ys : List Line) (rs qs : List (List StaticRecord)) (middle : ℕ) (between : List ℕ) (to : ℕ) (behind : List ℕ)
    → Tells at here xs rs middle between → Tells middle between ys qs to behind → Tells at here (xs ++ ys) (rs ++ qs) to behind
both at here xs ys rs qs middle between to behind t u rest =
    ap (line_landings at here) (append_assoc xs ys rest) ∙ t (ys ++ rest) ∙ ap (λ k. map told rs ++ k) (u rest)
    ∙ sym (append_assoc (map told rs) (map told qs) (line_landings to behind rest)) ∙ ap (λ k. k ++ line_landings to behind rest) (sym (map-append told rs qs))

-- a line in front
line : (at : ℕ) (here : List ℕ) (x : Line) (r : List StaticRecord) (xs : List Line) (rs : List (List StaticRecord)) (to : ℕ) (behind : List ℕ)
    → landings_at at here x ≡ told r → Tells (at + 1) (landings_behind at here x) xs rs to behind → Tells at here (x ∷ xs) (r ∷ rs) to behind
line at here x r xs rs to behind e t rest =
    ap (λ k. k ∷ line_landings (at + 1) (landings_behind at here x) (xs ++ rest)) e ∙ ap (λ k. told r ∷ k) (t rest)

nothing : (at : ℕ) (here : List ℕ) → Tells at here [] [] at here
nothing at here rest = refl

mutual
  step_told : (at : ℕ) (s : MidStep) (r : List StaticRecord) → Tells at (told r) (step_lines at s) (step_records at s r) (at + step_line_count s) (told r)
  step_told at (perform o) r = line at (told r) (Do o) r [] [] (at + 1) (told r) refl (nothing (at + 1) (told r))
  step_told at (choose t first second) r =
      let n = line_count first in
      let m = line_count second in
      let end = at + (1 + n + 1 + m + 1) in
      let a = at + 1 + n in
      let b = at + 1 + n + 1 in
      line at (told r) (Branch t b) r (code_lines (at + 1) first ++ (Jump end ∷ (code_lines b second ++ Jump end ∷ [])))
      (code_records (at + 1) first r ++ (r ∷ (code_records b second r ++ r ∷ []))) end (told r) refl
      (both (at + 1) (told r) (code_lines (at + 1) first) (Jump end ∷ (code_lines b second ++ Jump end ∷ [])) (code_records (at + 1) first r)
      (r ∷ (code_records b second r ++ r ∷ [])) a (told r) end (told r) (code_told (at + 1) first r)
      (line a (told r) (Jump end) r (code_lines b second ++ Jump end ∷ []) (code_records b second r ++ r ∷ []) end (told r) refl
      (both b (told r) (code_lines b second) (Jump end ∷ []) (code_records b second r) (r ∷ []) (b + m) (told r) end (told r) (code_told b second r)
      (up_to (b + m) (told r) (Jump end ∷ []) (r ∷ []) (b + m + 1) end (told r) (omega arith)
      (line (b + m) (told r) (Jump end) r [] [] (b + m + 1) (told r) refl (nothing (b + m + 1) (told r)))))))
  step_told at (switch register codes) r =
      let end = at + (1 + codes_line_count codes) in
      line at (told r) (Switch register (code_targets (at + 1) codes)) r (codes_lines (at + 1) end codes) (codes_records (at + 1) codes r) end (told r) refl
      (up_to (at + 1) (told r) (codes_lines (at + 1) end codes) (codes_records (at + 1) codes r) (at + 1 + codes_line_count codes) end (told r) (omega arith)
      (codes_told (at + 1) end codes r))
  step_told at (repeat counted head t body) r =
      let n = line_count head in
      let m = line_count body in
      let end = at + (n + 1 + m + 1) in
      let b = at + n + 1 in
      both at (told r) (code_lines at head) (Branch t end ∷ (code_lines b body ++ Jump at ∷ [])) (code_records at head r)
      (r ∷ (code_records b body r ++ r ∷ [])) (at + n) (told r) end (told r) (code_told at head r)
      (line (at + n) (told r) (Branch t end) r (code_lines b body ++ Jump at ∷ []) (code_records b body r ++ r ∷ []) end (told r) refl
      (both b (told r) (code_lines b body) (Jump at ∷ []) (code_records b body r) (r ∷ []) (b + m) (told r) end (told r) (code_told b body r)
      (up_to (b + m) (told r) (Jump at ∷ []) (r ∷ []) (b + m + 1) end (told r) (omega arith)
      (line (b + m) (told r) (Jump at) r [] [] (b + m + 1) (told r) refl (nothing (b + m + 1) (told r))))))
  step_told at (with_block block words word inside landing) r =
      let n = line_count inside in
      let m = line_count landing in
      let end = at + (1 + n + 3 + m + 1) in
      let g = at + 1 + n in
      let k = at + 1 + n + 2 in
      let b = at + 1 + n + 3 in
      let own : List StaticRecord = of_landing words k ∷ r in
      line at (told r) (Lay block words k) r
      (code_lines (at + 1) inside ++ (GiveBack words ∷ Jump end ∷ Landed word ∷ (code_lines b landing ++ GiveBack words ∷ [])))
      (code_records (at + 1) inside own ++ (own ∷ r ∷ own ∷ (code_records b landing own ++ own ∷ []))) end (told r) refl
      (both (at + 1) (told own) (code_lines (at + 1) inside) (GiveBack words ∷ Jump end ∷ Landed word ∷ (code_lines b landing ++ GiveBack words ∷ []))
      (code_records (at + 1) inside own) (own ∷ r ∷ own ∷ (code_records b landing own ++ own ∷ [])) g (told own) end (told r) (code_told (at + 1) inside own)
      (line g (told own) (GiveBack words) own (Jump end ∷ Landed word ∷ (code_lines b landing ++ GiveBack words ∷ [])) (r ∷ own ∷ (code_records b landing own ++ own ∷ [])) end (told r) refl
      (line (g + 1) (told r) (Jump end) r (Landed word ∷ (code_lines b landing ++ GiveBack words ∷ [])) (own ∷ (code_records b landing own ++ own ∷ [])) end (told r) refl
      (at_place (g + 1 + 1) k (told r) (Landed word ∷ (code_lines b landing ++ GiveBack words ∷ [])) (own ∷ (code_records b landing own ++ own ∷ [])) end (told r) (omega arith)
      (line k (told r) (Landed word) own (code_lines b landing ++ GiveBack words ∷ []) (code_records b landing own ++ own ∷ []) end (told r) refl
      (at_place (k + 1) b (told own) (code_lines b landing ++ GiveBack words ∷ []) (code_records b landing own ++ own ∷ []) end (told r) (omega arith)
      (both b (told own) (code_lines b landing) (GiveBack words ∷ []) (code_records b landing own) (own ∷ []) (b + m) (told own) end (told r) (code_told b landing own)
      (up_to (b + m) (told own) (GiveBack words ∷ []) (own ∷ []) (b + m + 1) end (told r) (omega arith)
      (line (b + m) (told own) (GiveBack words) own [] [] (b + m + 1) (told r) refl (nothing (b + m + 1) (told r)))))))))))
  step_told at (lend block words inside) r =
      let n = line_count inside in
      let end = at + (1 + n + 1) in
      let own : List StaticRecord = only_lent ∷ r in
      line at (told r) (Lend block words) r (code_lines (at + 1) inside ++ GiveBackLent ∷ []) (code_records (at + 1) inside own ++ own ∷ []) end (told r) refl
      (both (at + 1) (told own) (code_lines (at + 1) inside) (GiveBackLent ∷ []) (code_records (at + 1) inside own) (own ∷ []) (at + 1 + n) (told own) end (told r)
      (code_told (at + 1) inside own)
      (up_to (at + 1 + n) (told own) (GiveBackLent ∷ []) (own ∷ []) (at + 1 + n + 1) end (told r) (omega arith)
      (line (at + 1 + n) (told own) GiveBackLent own [] [] (at + 1 + n + 1) (told r) refl (nothing (at + 1 + n + 1) (told r)))))
  step_told at (return_word x) r = line at (told r) (Return x) r [] [] (at + 1) (told r) refl (nothing (at + 1) (told r))
  step_told at (cut_to block word) r = line at (told r) (Cut block word) r [] [] (at + 1) (told r) refl (nothing (at + 1) (told r))
  step_told at (halt_with x) r = line at (told r) (Halt x) r [] [] (at + 1) (told r) refl (nothing (at + 1) (told r))
  step_told at (end_unhandled class site condition) r =
      line at (told r) (Unhandled class site condition) r [] [] (at + 1) (told r) refl (nothing (at + 1) (told r))

  code_told : (at : ℕ) (c : MidCode) (r : List StaticRecord) → Tells at (told r) (code_lines at c) (code_records at c r) (at + line_count c) (told r)
  code_told at no_step r = up_to at (told r) [] [] at (at + 0) (told r) (omega arith) (nothing at (told r))
  code_told at (step_and s c) r =
      let n = step_line_count s in
      both at (told r) (step_lines at s) (code_lines (at + n) c) (step_records at s r) (code_records (at + n) c r) (at + n) (told r) (at + (n + line_count c)) (told r)
      (step_told at s r)
      (up_to (at + n) (told r) (code_lines (at + n) c) (code_records (at + n) c r) (at + n + line_count c) (at + (n + line_count c)) (told r) (omega arith)
      (code_told (at + n) c r))

  codes_told : (at end : ℕ) (cs : MidCodes) (r : List StaticRecord) → Tells at (told r) (codes_lines at end cs) (codes_records at cs r) (at + codes_line_count cs) (told r)
  codes_told at end no_code r = up_to at (told r) [] [] at (at + 0) (told r) (omega arith) (nothing at (told r))
  codes_told at end (code_and c cs) r =
      let n = line_count c in
      let b = at + n + 1 in
      let to = at + (n + 1 + codes_line_count cs) in
      both at (told r) (code_lines at c) (Jump end ∷ codes_lines b end cs) (code_records at c r) (r ∷ codes_records b cs r) (at + n) (told r) to (told r) (code_told at c r)
      (line (at + n) (told r) (Jump end) r (codes_lines b end cs) (codes_records b cs r) to (told r) refl
      (up_to b (told r) (codes_lines b end cs) (codes_records b cs r) (b + codes_line_count cs) to (told r) (omega arith) (codes_told b end cs r)))

lines_told : (p : MidProcedure) → line_landings 0 [] (code_lines 0 (code_of p.body)) ≡ tree_landings p
lines_told p =
    let c = code_of p.body in
    ap (line_landings 0 []) (sym (append-nil (code_lines 0 c))) ∙ code_told 0 c [] [] ∙ append-nil (map told (code_records 0 c []))

one_told : (rs : List (List StaticRecord)) (line : ℕ) → slice_index_or (map told rs) line [] ≡ told (records_in (slice_get rs line))
one_told [] line = refl
one_told (r ∷ rs) zero = refl
one_told (r ∷ rs) (suc line) = one_told rs line

pub law_of_landings : LawOfLandings
law_of_landings program number p h = record {
  told = lines_told p;
  standing = λ line.
      one_told (procedure_records (Some p)) line ∙ ap (λ o. told (records_in (slice_get (procedure_records o) line))) (sym h);
}

-- one line more
pub landings_more :
    (lines : List Line) (at : ℕ) (x : Line) (old new whole : List (List ℕ)) (one here slice next slice_behind : List ℕ) → slice_get lines at ≡ Some x
    → new ≡ old ++ one ∷ [] → one ≡ landings_at at slice x → slice ≡ here → next ≡ landings_behind at slice_behind x → slice_behind ≡ here
    → old ++ line_landings at here (drop at lines) ≡ whole → new ++ line_landings (at + 1) next (drop (at + 1) lines) ≡ whole
landings_more lines at x old new whole one here slice next slice_behind there is one_is slice_is next_is behind_is h =
    let step : suc at ≡ at + 1 = omega arith in
    let rest = line_landings (at + 1) (landings_behind at here x) (drop (at + 1) lines) in
    let left : drop at lines ≡ x ∷ drop (at + 1) lines = drop_there lines at x there ∙ ap (λ n. x ∷ drop n lines) step in
    let told_here : one ≡ landings_at at here x = one_is ∙ ap (λ k. landings_at at k x) slice_is in
    let told_next : next ≡ landings_behind at here x = next_is ∙ ap (λ k. landings_behind at k x) behind_is in
    ap (λ z. z ++ line_landings (at + 1) next (drop (at + 1) lines)) (is ∙ ap (λ k. old ++ k ∷ []) told_here)
    ∙ ap (λ k. (old ++ landings_at at here x ∷ []) ++ line_landings (at + 1) k (drop (at + 1) lines)) told_next
    ∙ append_assoc old (landings_at at here x ∷ []) rest ∙ ap (λ k. old ++ line_landings at here k) (sym left) ∙ h
