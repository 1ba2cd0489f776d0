-- The written program has what the laws ask for, and computes.
use Rattle.std.proofs.Common.{refl, arith}
use Rattle.lang_meaning.specs.Meaning.{mean, meaning_at}
use Rattle.lang_meaning.specs.State.{no_place}
use Rattle.lang_meaning.specs.Values.{nil, object}
use Rattle.lang_library_laws.specs.Worked.{IsMet, Works}

pub is_met : IsMet
is_met = record {
  reverse = refl;
  turn_copy = record { row = _; number = 1; found = refl; callee = refl; there = refl };
  length = refl;
  counting = record { row = _; number = 3; found = refl; callee = refl; there = refl };
  member = refl;
  memv = record { row = _; number = 5; found = refl; callee = refl; there = refl };
  assoc = refl;
  list_of = refl;
  append = refl;
  append_all = record { row = _; number = 9; found = refl; callee = refl; there = refl };
  turn = record { row = _; number = 10; found = refl; callee = refl; there = refl };
  put = record { row = _; number = 11; found = refl; callee = refl; there = refl };
  byte = record { row = _; number = 12; found = refl; callee = refl; there = refl };
  last = record { row = _; number = 13; found = refl; callee = refl; there = refl };
  natural = record { row = _; number = 14; found = refl; callee = refl; there = refl };
  number = refl;
  strings = record { row = _; number = 16; found = refl; callee = refl; there = refl };
  vectors = record { row = _; number = 17; found = refl; callee = refl; there = refl };
  equal = record { row = _; number = 18; found = refl; callee = refl; there = refl };
  nreverse = record { row = _; number = 19; found = refl; callee = refl; there = refl };
  mapcar = refl;
  elt = refl;
  from = record { row = _; number = 22; found = refl; callee = refl; there = refl };
  string_append = refl;
  lengths = record { row = _; number = 24; found = refl; callee = refl; there = refl };
  copy = record { row = _; number = 25; found = refl; callee = refl; there = refl };
  subseq = refl;
  check = record { row = _; number = 27; found = refl; callee = refl; there = refl };
  listp = record { row = _; number = 28; found = refl; callee = refl; there = refl };
  part = record { row = _; number = 29; found = refl; callee = refl; there = refl };
  nils = λ id h. (no_place, h);
  truths = λ id h. (_, (no_place, h));
  numbers = λ id n h. (no_place, h);
  minus = (no_place, refl);
  blank = (no_place, refl);
  functions = λ id h. record { number = 6; row = h; is = refl; there = refl };
  lists = λ id h. record { number = 8; row = h; is = refl; there = refl };
  integers = λ id h. record { number = 13; row = h; is = refl; there = refl };
  is_function = (_, refl, refl);
  is_list = (_, refl, refl);
  is_integer = λ n. refl;
  digits = record { place = no_place; number = 66; row = refl; is = refl; there = refl };
  output = (35, refl, refl);
  list = (68, _, refl, omega arith, refl, (67, _, refl, omega arith, refl, refl));
  conses = (_, refl, refl, (_, refl, refl, refl));
  texts = ((71, refl, refl, omega arith), ((72, refl, refl, omega arith), tt));
  entries = (70, _, refl, omega arith, refl, refl);
  keys = ((69, _, refl, refl), tt);
}

pub works : Works
unfolding mean meaning_at
works = record {
  reverse = refl;
  reversed = (74, object 73, refl, omega arith, refl, (73, nil, refl, omega arith, refl, refl));
  length = refl;
  member = refl;
  assoc = refl;
  append = refl;
  appended = (75, object 76, refl, omega arith, refl, (76, object 70, refl, omega arith, refl, (70, nil, refl, omega arith, refl, refl)));
  printed = refl;
  equal = refl;
  unequal = refl;
  nreversed = refl;
  turned = (object 68, refl, refl, (nil, refl, refl, refl));
  mapped = refl;
  values = (73, nil, refl, omega arith, refl, refl);
  item = refl;
  byte = refl;
  taken = refl;
  part = (73, nil, refl, omega arith, refl, refl);
  joined = refl;
  whole = refl;
}
