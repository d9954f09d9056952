-- An instance through its bytes, after a gate that accepted: what the write and the read still ask, that read
-- equals written, and the check of what was read. Assumes nothing.
use Prim.Native.Nat.{ℕ, ◌*◌}
use mathlib.Core.Path.{◌≡◌, refl, sym, ap, ap₂, ◌∙◌, subst}
use mathlib.Core.Bool.{true}
use mathlib.Core.List.{List, [], ◌++◌}
use native.Mathlib.Omega.{arith}
use borrow.Author.Tests.{lt-ltb}
use lib.Dec.{leb}
use lib.ListN.{length, take}
use Rattle.limits.specs.Numbers.{max_count}
use Rattle.limits.specs.Questions.{ask, ◌▸◌, Question, first_no}
use Rattle.limits.specs.Asks.{width_asks, store_asks}
use Rattle.limits.proofs.Questions.{first_no-append}
use Rattle.words.specs.Pieces.{flat, words_of}
use Rattle.narg.specs.Reader.{Got, got}
use Rattle.allocator.specs.Slots.{Pair}
use Rattle.expr.specs.Equation.{equations_words}
use Rattle.expr.proofs.Held.{two-each}
use Rattle.permutation.specs.declared.PermutationRelation.{PermutationRelation}
use Rattle.instance.specs.declared.PermutationInstance.{PermutationInstance}
use Rattle.instance.specs.Parts.{Parts, pair_words, held_publics, held_queries, held_equations}
use Rattle.validated.specs.Validated.{validated_no}
use Rattle.compile.specs.Gate.{publics_of, publics_store, compile_no}
use Rattle.limits.specs.Outcome.{outcome_of}
use Rattle.held.proofs.Facts.{all_below-facts}
use Rattle.validated.proofs.Facts.{facts-validated}
use Rattle.instance.proofs.Parts.{pair_words-length}
use Rattle.header.specs.Form.{version}
use Rattle.encoding.specs.Form.{instance_bytes}
use Rattle.zero_wire.specs.Zero.{has_zero_wire}
use Rattle.decoding.specs.Read.{plain_rule, strict_rule, File, read_instance, file}
use Rattle.decoding.specs.Sound.{SoundFile, room_asks, order_asks, got_after}
use Rattle.encoding.specs.Answers.{instance_to_bytes, instance_to_bytes_no}
use Rattle.decoding.specs.Answers.{instance_from_bytes, instance_answer, publics_after, queries_after, equations_after, label_read}
use Rattle.encoding.specs.Answers.{Written}
use Rattle.decoding.specs.Records.{InstanceRead}
use Rattle.encoding.proofs.Length.{length-instance_bytes}
use Rattle.decoding.proofs.After.{after-after}
use Rattle.roundtrip.proofs.Reading.{read-written}
use Rattle.roundtrip.proofs.Rules.{strict-written}
use Rattle.history.specs.Ledger.{Ledger}
use Rattle.history.specs.Calls.{State}
use Rattle.history.specs.Left.{public_count, file_length, instance_length, instance_write_left, instance_read_left}
use Rattle.history.specs.Demand.{Accepted}
use Rattle.history.specs.Whole.{lent_to_gate, Checks, TraceLent, witness_written, witness_read_back, trace_read_back, FileLent, instance_written, instance_bytes_made, instance_read_back, label_read_back, publics_read_back, queries_read_back, equations_read_back, SameFile, Filed}
use Rattle.history.proofs.Bridge.{ledger_parts}
use Rattle.history.proofs.Keeps.{Agrees}
use Rattle.history.proofs.Outcomes.{past-yes, past-width, then, accepted-no}
use Rattle.history.proofs.Accepted.{InstanceWriteLeft, instance_write_left-yes, instance_read_left-yes}
use Rattle.history.proofs.Gate.{queries-held, equations-held-are, public-count}
use Rattle.history.proofs.Made.{full, ps, ins, publics-wires, publics-values, HoldsWords, Sized, queries-length, parts_held, sizes-yes, sound-yes, compiles, parts-valid, publics-room, gate-holds, gate-sized}
use Rattle.history.proofs.Sound.{in_order, zero-listed, sound-pairs, sound-queries, sound-equations}
use Rattle.history.proofs.Bytes.{written-bytes, padded-held, padded-length, got-yes, instance-outcome}
use Rattle.history.proofs.Traces.{few, trace-read}
use Rattle.history.proofs.Checks.{checks-are}

-- ---- what is checked of one instance and label is checked of an equal one
checks-as : (w : ℕ) (l : Ledger) (x y : PermutationInstance) (a b publics queries equations : List ℕ) (steps : ℕ) (trace : List ℕ)
    → x ≡ y → a ≡ b → Checks w l y b publics queries equations steps trace → Checks w l x a publics queries equations steps trace
checks-as w l x y a b publics queries equations steps trace e h c =
    subst (λ (v : PermutationInstance). Checks w l v a publics queries equations steps trace) (sym e)
    (subst (λ (v : List ℕ). Checks w l y v publics queries equations steps trace) (sym h) c)

-- ---- after a gate that accepted, at the record's own width
module _ (s : State) (l : Ledger) (i : Agrees s.relation.width s l)
    (gate_label publics scratch : List ℕ)
    (gate : compile_no (lent_to_gate s gate_label publics scratch) ≡ 0) (f : FileLent) where
  abbrev rel : PermutationRelation
  rel = s.relation

  abbrev w : ℕ
  w = rel.width

  -- the publics as pairs and as the gate stored them, the instance, and the parts
  abbrev pairs : List Pair
  pairs = ps s l i

  abbrev made : List ℕ
  made = publics_store (length publics) pairs

  made_holds : HoldsWords s l i made s.queries s.equations
  made_holds = gate-holds s l i gate_label publics scratch gate

  abbrev it : PermutationInstance
  it = ins s l i

  abbrev parts : Parts
  parts = ledger_parts l rel.vars pairs

  -- ---- the write
  -- what is written and what is read back
  abbrev written : Written
  written = instance_written w s.queries s.equations it made f

  abbrev bytes_made : List ℕ
  bytes_made = instance_bytes_made w s.queries s.equations it made f

  abbrev back : InstanceRead
  back = instance_read_back w s.queries s.equations it made f

  abbrev label_back : List ℕ
  label_back = label_read_back w s.queries s.equations it made f

  abbrev publics_back : List ℕ
  publics_back = publics_read_back w s.queries s.equations it made f

  abbrev queries_back : List ℕ
  queries_back = queries_read_back w s.queries s.equations it made f

  abbrev equations_back : List ℕ
  equations_back = equations_read_back w s.queries s.equations it made f

  -- the bytes that are meant
  abbrev meant : List ℕ
  meant = instance_to_bytes it f.label made s.queries s.equations

  abbrev write_no : ℕ
  write_no = instance_to_bytes_no it f.label made s.queries s.equations (length f.out)

  meant_is : meant ≡ instance_bytes version w f.label parts
  meant_is = ap (instance_bytes version w f.label) (parts_held s l i made s.queries s.equations made_holds)

  publics-count : length pairs ≡ public_count l
  unfolding publics_of
  publics-count = public-count w s l i

  bytes-length : length meant ≡ instance_length w l (length f.label)
  bytes-length =
      ap length meant_is ∙ length-instance_bytes version w f.label parts i.in_queries.widths
      ∙ ap (λ (n : ℕ). file_length w (length f.label) n (length l.queries) (length (equations_words l.equations))) publics-count

  write-left : write_no ≡ first_no (instance_write_left w l f.label (length f.out))
  unfolding instance_to_bytes_no instance_write_left
  write-left =
      past-width w _ i.least i.most
      ∙ sizes-yes s l i made s.queries s.equations made_holds (gate-sized s l i gate_label publics scratch gate) _
      ∙ then _ _ _ (sound-yes s l i made s.queries s.equations made_holds _
      ∙ then _ _ _ (ap (λ (n : ℕ). ask 10 (leb n (length f.out)) ▸ 0) bytes-length))

  -- ---- the write accepted
  module _ (z : write_no ≡ 0) where
    label-is-sound : InstanceWriteLeft f.label
    label-is-sound = instance_write_left-yes w l f.label (length f.out) (sym write-left ∙ z)

    sound-file : SoundFile w f.label parts
    sound-file =
        let o = i.in_slots in
        let a = o.most in
        let b = o.room in
        let c = compiles s l i gate_label publics scratch gate in
        let r = publics-room s l i gate_label publics scratch gate in
        let q = c.queries-high in
        let e = c.equations-high in
        let h = c.publics-high in
        let qn = queries-length s l i in
        let qf = full (words_of w rel.queries) s.queries (flat l.queries) (queries-held w s l i) qn in
        let en = i.in_equations.words in
        let ef = full rel.words s.equations (equations_words l.equations) (equations-held-are w s l i) (sym en) in
        let two = two-each l.equations in
        record {
          width_fits = omega arith;
          label_length = label-is-sound.label-high;
          label_utf8 = label-is-sound.label-sound;
          vars = omega arith;
          publics_count = omega arith;
          publics = sound-pairs pairs (publics-wires s l i) (publics-values s l i);
          queries_count = few (length l.queries) w (rw (← i.in_queries.counts) (omega arith)) i.least;
          queries = sound-queries w l.queries i.in_queries.widths (all_below-facts max_count (flat l.queries) i.in_queries.below);
          equations_count = omega arith;
          equations = sound-equations l.equations (omega arith) i.in_equations.below;
        }

    bytes-are : bytes_made ≡ instance_bytes version w f.label parts
    bytes-are = written-bytes write_no meant f.out z ∙ meant_is

    -- ---- the read
    abbrev sizes_asked : List Question
    sizes_asked =
        width_asks w ++ (store_asks f.rooms.publics ++ (store_asks f.rooms.queries
        ++ (store_asks f.rooms.equations ++ store_asks f.rooms.scratch)))

    abbrev parts_asked : List Question
    parts_asked = room_asks w f.rooms parts ++ order_asks plain_rule f.rooms parts

    abbrev read_no : ℕ
    read_no = first_no sizes_asked ▸ first_no parts_asked

    got-is : instance_from_bytes plain_rule w bytes_made f.rooms ≡ got_after read_no (got (file f.label parts) [])
    unfolding instance_from_bytes
    got-is =
        ap (λ (b : List ℕ). got_after (first_no sizes_asked) (read_instance plain_rule version w f.rooms b)) bytes-are
        ∙ ap (got_after (first_no sizes_asked)) (read-written plain_rule version w f.rooms f.label parts sound-file)
        ∙ after-after _ _ (got (file f.label parts) [])

    read_left : read_no ≡ first_no (instance_read_left w l f.rooms)
    unfolding instance_read_left validated_no
    read_left =
        sym (first_no-append sizes_asked parts_asked)
        ∙ past-width w _ i.least i.most
        ∙ then _ _ _ (then _ _ _ (then _ _ _ (then _ _ _
        (ap₂ ◌▸◌ (ap (λ (n : ℕ). ask 10 (leb (2 * n) f.rooms.publics)) publics-count)
        (then _ _ _ (then _ _ _
        (past-yes 27 _ _ (in_order 0 (take rel.vars s.slots))
        ∙ ap₂ ◌▸◌ (ap (λ (n : ℕ). ask 16 (leb n f.rooms.scratch)) i.count)
        (facts-validated parts (parts-valid s l i gate_label publics scratch gate)))))))))

    -- wire 0 was set to 0 from the start
    lists-zero : has_zero_wire parts ≡ true
    lists-zero =
        let o = i.in_slots in
        rw (lt-ltb 0 rel.vars o.least) (zero-listed (take rel.vars s.slots) (o.held 0 ∙ o.zeroth))

    strict-too : instance_from_bytes strict_rule w bytes_made f.rooms ≡ instance_from_bytes plain_rule w bytes_made f.rooms
    strict-too = rw bytes-are (strict-written w f.label parts f.rooms sound-file lists-zero)

    read-outcome : back.outcome ≡ outcome_of read_no
    read-outcome = ap (λ (g : Got File). (instance_answer w g).outcome) got-is ∙ instance-outcome w read_no (file f.label parts)

    -- ---- and the read accepted
    module _ (y : read_no ≡ 0) where
      got-file : instance_from_bytes plain_rule w bytes_made f.rooms ≡ got (file f.label parts) []
      got-file = got-is ∙ got-yes read_no (got (file f.label parts) []) y

      instance-is : back.instance ≡ ins s l i
      instance-is =
          ap (λ (g : Got File). (instance_answer w g).instance) got-file
          ∙ (λ j. record {
            width = w;
            vars = rel.vars;
            queries = sym i.in_queries.counts j;
            equations = sym i.in_equations.counts j;
            words = sym i.in_equations.words j;
            publics = length pairs;
          })

      label_is : label_back ≡ f.label
      label_is = ap label_read got-file

      read-holds : HoldsWords s l i publics_back queries_back equations_back
      read-holds = record {
        publics-words =
            ap (λ (g : Got File). held_publics it (publics_after f.rooms.publics g)) got-file
            ∙ padded-held (2 * length pairs) f.rooms.publics (pair_words pairs) (pair_words-length pairs);
        queries-words =
            ap (λ (g : Got File). held_queries it (queries_after f.rooms.queries g)) got-file
            ∙ padded-held (words_of w rel.queries) f.rooms.queries (flat l.queries) (queries-length s l i);
        equations-words =
            ap (λ (g : Got File). held_equations it (equations_after f.rooms.equations g)) got-file
            ∙ padded-held rel.words f.rooms.equations (equations_words l.equations) (sym i.in_equations.words);
      }

      read-sized : Sized s l i publics_back queries_back equations_back
      read-sized =
          let r = instance_read_left-yes w l f.rooms (sym read_left ∙ y) in
          let pn = pair_words-length pairs in
          let pc = publics-count in
          let pr = r.publics-room in
          let qn = queries-length s l i ∙ ap (words_of w) i.in_queries.counts in
          let p = ap (λ (g : Got File). length (publics_after f.rooms.publics g)) got-file
          ∙ padded-length f.rooms.publics (pair_words pairs) (omega arith) in
          let q = ap (λ (g : Got File). length (queries_after f.rooms.queries g)) got-file
          ∙ padded-length f.rooms.queries (flat l.queries) (rw qn r.queries-room) in
          let e = ap (λ (g : Got File). length (equations_after f.rooms.equations g)) got-file
          ∙ padded-length f.rooms.equations (equations_words l.equations) r.equations-room in
          record {
            publics-size = rw p r.publics-high;
            queries-size = rw q r.queries-high;
            equations-size = rw e r.equations-high;
          }

      same-file : SameFile w s.queries s.equations it made f
      same-file = record {
        instance = instance-is;
        label = label_is;
        publics = read-holds.publics-words ∙ sym made_holds.publics-words;
        queries = read-holds.queries-words ∙ sym made_holds.queries-words;
        equations = read-holds.equations-words ∙ sym made_holds.equations-words;
      }

      read-checks : (t : TraceLent) → Accepted (witness_written w t).outcome → Accepted (witness_read_back w t).outcome
          → Checks w l back.instance label_back publics_back queries_back equations_back (witness_read_back w t).steps (trace_read_back w t)
      read-checks t a b =
          checks-as w l _ it _ f.label publics_back queries_back equations_back (witness_read_back w t).steps (trace_read_back w t)
          instance-is label_is
          (checks-are s l i (parts-valid s l i gate_label publics scratch gate)
          f.label label-is-sound.label-high label-is-sound.label-sound
          publics_back queries_back equations_back read-holds read-sized
          (witness_read_back w t).steps (trace_read_back w t) (trace-read w i.least i.most t a b))

  written-no : Accepted written.outcome → write_no ≡ 0
  written-no a = accepted-no write_no a

  read-accepted : (a : Accepted written.outcome) → Accepted back.outcome → read_no (written-no a) ≡ 0
  read-accepted a b = accepted-no _ (sym (read-outcome (written-no a)) ∙ b)

  pub filed : Filed w s.queries s.equations it made f l
  unfolding instance_to_bytes_no
  filed = record {
    writes = record { by-questions = refl; by-ledger = ap outcome_of write-left };
    reads = λ a. read-outcome (written-no a) ∙ ap outcome_of (read_left (written-no a));
    same = λ a b. same-file (written-no a) (read-accepted a b);
    strictly = λ a. strict-too (written-no a);
    checks = λ a b. read-checks (written-no a) (read-accepted a b);
  }
