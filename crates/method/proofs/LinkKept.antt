-- PROMISE: a command leaves a link that keeps its rules, with the last status that it had, and refuses with one of the nine statuses of
-- steps 2 to 8.
use mathlib.Core.Path.{◌≡◌, refl, sym, ◌∙◌}
use mathlib.Core.Bool.{Bool, true, false, not}
use mathlib.Core.List.{List, ◌++◌}
use Prim.Native.Nat.{ℕ, suc, ◌+◌, ◌*◌, ◌%◌, ◌<◌, ◌≤◌}
use native.Mathlib.Omega.{arith}
use borrow.Author.Tests.{eq-eqb, eqb-true, eqb-false, le-leb, ltb-true, ltb-false}
use lib.Dec.{eqb, ltb}
use lib.ListN.{length, get_or, take, set, length-append, length-set}
use lib.Seq.{get_or-set_same, get_or-set_other}
use Rattle.octets.specs.Finding.{before}
use Rattle.octets.specs.LittleEndian.{le}
use Rattle.octets.specs.Padding.{pad}
use Rattle.octets.proofs.LawsPadding.{pad_length, pad_front, pad_zeros}
use Rattle.octets.proofs.LawsScanning.{all_at, all_of}
use Rattle.octets.proofs.LawsTests.{by_test, chosen, and_l, and_r, impossible}
use Rattle.property.specs.Status.{status_number, RefusalStatus, invalid_argument, invalid_state, parse_error, nomem, already, item_not_found, invalid_command_for_prop}
use Rattle.property.specs.Number.{number_at, power_state, within, slot_count}
use Rattle.property.specs.declared.number.Number.{Number as Numeric}
use Rattle.property.specs.declared.commands.Command.{Command}
use Rattle.property.specs.declared.commands.Command.TheVariants.{Get, Set, Insert, Remove}
use Rattle.property.specs.declared.row.Kind.{Kind}
use Rattle.property.specs.declared.row.Kind.TheVariants.{ReadOnly, Power, Number, Name, Ports}
use Rattle.property.proofs.TableRule.{numbers_keep, power_keeps, outside_refused}
use Rattle.device.specs.State.{held_from, octets_of, max_held, max_name, max_ports}
use Rattle.device.specs.Text.{is_text}
use Rattle.device.specs.Ports.{ports_in, holds, distinct}
use Rattle.device.specs.Rules.{padded, ports_rule, in_range, stack_rule, sized, link_rule}
use Rattle.device.specs.declared.state.Link.{Link}
use Rattle.device.proofs.LawsPorts.{ports_length}
use Rattle.device.proofs.LawsRules.{text_told, text_pad}
use Rattle.device.proofs.StateRules.{LinkFacts, link_told, nine_numbers, ports_room, ports_even, ports_distinct}
use Rattle.std.specs.Prelude.{Result, Ok, Err}
use Rattle.property.specs.declared.status.Status.{Status}
use Rattle.property.specs.declared.status.Status.TheVariants.{ParseError}
use Rattle.method.specs.declared.outcome.Performed.{Performed}
use Rattle.method.specs.Perform.{get_with, perform}
use Rattle.method.specs.Outcome.{Outcome, done, with_numbers, with_name, with_ports}
use Rattle.method.specs.Set.{value_in, conflicts, number_to, set_number, power_to, set_power, set_name, set_ports, set_kind}
use Rattle.method.specs.Items.{insert_port, without, remove_port}
use Rattle.method.proofs.StackAndInterface.{conflict_test}
use Rattle.method.proofs.LawsNumbers.{value_within}
use Rattle.method.proofs.LawsItems.{distinct_snoc, distinct_less, ports_snoc, ports_without, length_without, port_inside}

pub record KeptLink (l : Link) (r : Performed) : Type 0 where
  pub facts : LinkFacts r.link
  pub same : r.link.status ≡ l.status

abbrev pub Kept : Link → Outcome → Type 0
Kept l (Ok r) = KeptLink l r
Kept l (Err s) = RefusalStatus (status_number s)

-- ---- what is put into its array keeps its rule

ports_held_lem : (xs : List ℕ) → length xs ≤ max_held → length xs % 2 ≡ 0 → distinct (ports_in xs) ≡ true → ports_rule (pad max_held xs) (length xs) ≡ true
unfolding ports_rule padded
ports_held_lem xs few even d = rw (pad_length max_held xs few, le-leb (length xs) max_held few, pad_zeros max_held xs, eq-eqb _ _ even, pad_front max_held xs, d)

sized_with : (l : Link) (xs : List ℕ) → length xs ≤ max_held → sized l ≡ true
    → (sized (with_name l (held_from xs)) ≡ true) × (sized (with_ports l (held_from xs)) ≡ true)
unfolding sized
sized_with l xs few t =
    let rest = and_r (eqb (length l.numbers) slot_count) _ t in
    let nine = and_l (eqb (length l.numbers) slot_count) _ t in
    let name = and_l (eqb (length l.name.octets) max_held) _ rest in
    let ports = and_r (eqb (length l.name.octets) max_held) _ rest in
    (rw (pad_length max_held xs few, nine, ports), rw (pad_length max_held xs few, nine, name))

-- ---- numbers

bad_refused : (n : Numeric) (p : List ℕ) (s : Status) → RefusalStatus (status_number n.outside) → value_in n p ≡ Err s → RefusalStatus (status_number s)
unfolding value_in
bad_refused n p s h e =
    by_test (eqb (length p) n.width)
    (λ t. by_test (within n (le p))
    (λ u. let e' = rw (t, u) at e in impossible cc)
    (λ u. let e' = rw (t, u) at e in let same : n.outside ≡ s = cc in rw (← same) h))
    (λ t. let e' = rw t at e in let same : ParseError ≡ s = cc in rw (← same) parse_error)

sized_numbers : (l : Link) (slot v : ℕ) → sized l ≡ true → sized (with_numbers l (set l.numbers slot v)) ≡ true
unfolding sized
sized_numbers l slot v t = rw (length-set l.numbers slot v) t

was : (t : Bool) → not t ≡ false → t ≡ true
was true h = refl
was false h = sym h

-- ---- each command

module _ (l : Link) (t : link_rule l ≡ true) where
  abbrev f : LinkFacts l
  f = link_told l t

  kept_done : Kept l (done l)
  kept_done = record { facts = f; same = refl }

  kept_name : (xs : List ℕ) → is_text max_name xs ≡ true → Kept l (done (with_name l (held_from xs)))
  kept_name xs h =
      let few = text_told max_name xs h in
      record {
        facts = record {
          sized = (sized_with l xs few f.sized).0;
          status = f.status;
          range = f.range;
          stack = f.stack;
          name = text_pad max_held xs few ∙ h;
          ports = f.ports;
        };
        same = refl;
      }

  kept_ports : (xs : List ℕ) → length xs ≤ max_held → length xs % 2 ≡ 0 → distinct (ports_in xs) ≡ true → Kept l (done (with_ports l (held_from xs)))
  kept_ports xs few even d =
      record {
        facts = record {
          sized = (sized_with l xs few f.sized).1;
          status = f.status;
          range = f.range;
          stack = f.stack;
          name = f.name;
          ports = ports_held_lem xs few even d;
        };
        same = refl;
      }

  name_kept : (p : List ℕ) → Kept l (set_name l p)
  unfolding set_name
  name_kept p =
      chosen (Kept l) (eqb (suc (before 0 p)) (length p))
      (λ _. chosen (Kept l) (is_text max_name (take (before 0 p) p)) (λ h. kept_name (take (before 0 p) p) h) (λ _. invalid_argument))
      (λ _. parse_error)

  ports_kept : (p : List ℕ) → Kept l (set_ports l p)
  unfolding set_ports
  ports_kept p =
      chosen (Kept l) (eqb (length p % 2) 0)
      (λ e. chosen (Kept l) (distinct (ports_in p))
      (λ d. chosen (Kept l) (ltb max_ports (length (ports_in p))) (λ _. nomem)
      (λ h. let even = eqb-true (length p % 2) 0 e in
      kept_ports p (omega (arith, ports_length p, ltb-false max_ports (length (ports_in p)) h)) even d))
      (λ _. invalid_argument))
      (λ _. parse_error)

  -- the octets of the ports held: so many, an even number, distinct
  abbrev xs : List ℕ
  xs = octets_of l.ports

  insert_kept : (p : List ℕ) → Kept l (insert_port l p)
  unfolding insert_port
  insert_kept p =
      chosen (Kept l) (eqb (length p) 2)
      (λ e. let two = eqb-true (length p) 2 e in
      chosen (Kept l) (holds (le p) (ports_in xs)) (λ _. already)
      (λ h. chosen (Kept l) (ltb (length (ports_in xs)) max_ports)
      (λ g. let long = length-append xs p in
      let few : length (xs ++ p) ≤ max_held = omega (arith, ports_length xs, ltb-true (length (ports_in xs)) max_ports g, ports_even l t) in
      let apart : distinct (ports_in (xs ++ p)) ≡ true = rw (ports_snoc xs p (ports_even l t) two) (distinct_snoc (le p) (ports_in xs) (ports_distinct l t) h) in
      kept_ports (xs ++ p) few (omega (arith, ports_even l t)) apart)
      (λ _. nomem)))
      (λ _. parse_error)

  remove_kept : (p : List ℕ) → Kept l (remove_port l p)
  unfolding remove_port
  remove_kept p =
      chosen (Kept l) (eqb (length p) 2)
      (λ e. chosen (Kept l) (holds (le p) (ports_in xs))
      (λ h. let i = before (le p) (ports_in xs) in
      let inside : 2 * i + 2 ≤ length xs = port_inside (le p) xs h in
      let long = length_without (2 * i) xs inside in
      let most = (ports_room l t).most in
      let count = (ports_room l t).counted in
      kept_ports (without (2 * i) xs) (omega arith) (omega (arith, ports_even l t)) (rw (ports_without i xs inside) (distinct_less i (ports_in xs) (ports_distinct l t))))
      (λ _. item_not_found))
      (λ _. parse_error)

  -- one number changed to another of its range
  range_set : (slot v : ℕ) → slot < slot_count → within (number_at slot) v ≡ true → in_range (set l.numbers slot v) ≡ true
  unfolding in_range
  range_set slot v h w =
      all_of slot_count (λ k. within (number_at k) (get_or (set l.numbers slot v) k 0))
      (λ k low. by_test (eqb k slot)
      (λ e. let same : k ≡ slot = eqb-true k slot e in
      rw (same, get_or-set_same l.numbers slot v 0 (omega (arith, nine_numbers l t))) w)
      (λ e. rw (get_or-set_other l.numbers slot k v 0 (eqb-false k slot e)) (all_at slot_count (λ j. within (number_at j) (get_or l.numbers j 0)) f.range k low)))

  number_kept : (slot : ℕ) (x : Result ℕ Status) (p : List ℕ) → slot < slot_count → value_in (number_at slot) p ≡ x → Kept l (number_to l slot x)
  unfolding number_to
  number_kept slot (Err s) p h e = bad_refused (number_at slot) p s (outside_refused (number_at slot) (numbers_keep slot h)) e
  number_kept slot (Ok v) p h e =
      let w = value_within (number_at slot) p v e in
      chosen (Kept l) (conflicts l.numbers slot v) (λ _. invalid_state)
      (λ c. record {
        facts = record {
          sized = sized_numbers l slot v f.sized;
          status = f.status;
          range = range_set slot v h w;
          stack = was (stack_rule (set l.numbers slot v)) (sym (conflict_test l.numbers (nine_numbers l t) f.range f.stack slot v w) ∙ c);
          name = f.name;
          ports = f.ports;
        };
        same = refl;
      })

  power_kept : (x : Result ℕ Status) (p : List ℕ) → value_in power_state p ≡ x → Kept l (power_to l x)
  unfolding power_to
  power_kept (Ok x) p e = record { facts = f; same = refl }
  power_kept (Err s) p e = bad_refused power_state p s (outside_refused power_state power_keeps) e

  set_kept : (k : Kind) (p : List ℕ) → ((slot : ℕ) → k ≡ Number slot → slot < slot_count) → Kept l (set_kind l k p)
  unfolding set_kind set_number set_power
  set_kept (ReadOnly x) p h = invalid_command_for_prop
  set_kept Power p h = power_kept (value_in power_state p) p refl
  set_kept (Number slot) p h = number_kept slot (value_in (number_at slot) p) p (h slot refl) refl
  set_kept Name p h = name_kept p
  set_kept Ports p h = ports_kept p

  pub perform_kept : (c : Command) (k : Kind) (p : List ℕ) → ((slot : ℕ) → k ≡ Number slot → slot < slot_count) → Kept l (perform l c k p)
  unfolding perform get_with
  perform_kept Get k p h = chosen (Kept l) (eqb (length p) 0) (λ _. kept_done) (λ _. parse_error)
  perform_kept Set k p h = set_kept k p h
  perform_kept Insert k p h = insert_kept p
  perform_kept Remove k p h = remove_kept p
