-- Each action on a sound loop's area is what it does with the loop, and on the loop it is the call of the line: in
-- the loop that it leaves, and in what is read off its answer.
use Prim.Native.Nat.{ℕ, zero, suc, ◌+◌}
use mathlib.Core.Path.{◌≡◌, refl, sym, ap, ◌∙◌}
use mathlib.Core.Bool.{Bool, true, false, cond, ◌&&◌, and-true, and-false}
use mathlib.Core.Option
use mathlib.Core.Option.{Option, none, some}
use mathlib.Core.List.{List, [], ◌∷◌, map, append-nil}
use native.Mathlib.Omega.{arith}
use lib.Dec.{eqb, ltb}
use borrow.Author.Tests.{eq-eqb, ne_eqb, ltb-true, eqb-true, eqb-false}
use Rattle.frame.specs.Messages.{frames}
use Rattle.area.specs.Loop.{Loop, area_of, SoundLoop}
use Rattle.area.proofs.Laws.{loop_back, area_sound}
use Rattle.calls.specs.Outcome.{Outcome, refuse, done, After, after, after_of, call_of, call_with, reads}
use Rattle.calls.specs.Calls.{refusal, no_hop, no_take, put_in, take_in, hop_in}
use Rattle.calls.specs.Drain.{no_drain, drain_in}
use Rattle.calls.specs.Owed.{no_owed, owed_in}
use Rattle.calls.specs.declared.HopAnswer.{HopAnswer}
use Rattle.calls.specs.declared.TakeAnswer.{TakeAnswer}
use Rattle.calls.proofs.Lined.{both_refuse, both_do}
use Rattle.order.specs.Line as line
use Rattle.order.specs.Flat as flat
use Rattle.order.specs.History as told
use Rattle.order.specs.History.{if_same, listed}
use Rattle.order.specs.Order.{handed_at}
use Rattle.order.proofs.Flat.{same_flat}
use Rattle.order.proofs.Drain.{none_same, drain_is_hops, drain_stops}
use Rattle.order.proofs.Through.{each_append}
use Rattle.order.proofs.Turns.{here, elsewhere}
use Rattle.saved.specs.Calls.{save_of}
use Rattle.demands.specs.Calls.{numbers, Local, local_by, Action, put, hop, take, local, drain, owes, save, Answer}
use Rattle.demands.specs.Calls.{plain, hopped, taken, drained, owing, saving, acts}
use Rattle.demands.specs.Histories.{call, Got, got, reported, if, hop_tells, put_by, taken_by, handed_by, hops_by}
use Rattle.demands.specs.Histories.{refused_by, papers, calls, call_seen, turn_seen, is_drain}
use Rattle.demands.proofs.Bridge.{to_loop, Alike, put_alike, take_alike, hop_alike, local_alike}
use Rattle.demands.proofs.Drains.{drain_answer, drained_alike}

-- ---- on the loop

-- the loop that an outcome leaves, and the answer
abbrev pub settle : {A : Type 0} → (A → Answer) → (ℕ → A) → Loop → Outcome A → Loop × Answer
settle kind deny m (refuse k) = (m, kind (deny k))
settle kind deny m (done r n) = (n, kind r)

abbrev pub on_loop : Action → Loop → Loop × Answer
on_loop (put f) m = settle plain refusal m (put_in f m)
on_loop (hop i) m = settle hopped no_hop m (hop_in i m)
on_loop take m = settle taken no_take m (take_in m)
on_loop (local i c) m = settle plain refusal m (local_by c i m)
on_loop (drain b) m = settle drained no_drain m (drain_in b m)
on_loop owes m = (m, owing (owed_in m))
on_loop (save out) m = (m, saving (save_of (area_of m) (numbers out)).answer (save_of (area_of m) (numbers out)).area)

-- an answer and an area are those of a loop and its answer
abbrev IsOn : After Answer → Loop × Answer → Type 0
IsOn o p = (o.area ≡ area_of p.0) × (o.answer ≡ p.1)

module _ (m : Loop) (s : SoundLoop m) where
  settled : {A : Type 0} (kind : A → Answer) (deny : ℕ → A) (does : Loop → Outcome A) →
      IsOn (after (kind (call_of deny does (area_of m)).answer) (call_of deny does (area_of m)).area)
      (settle kind deny m (does m))
  unfolding call_with
  settled kind deny does = rw (area_sound m s, loop_back m s) (go (does m))
    where
      go : (o : Outcome _) →
          IsOn (after (kind (after_of deny (area_of m) o).answer) (after_of deny (area_of m) o).area)
          (settle kind deny m o)
      go (refuse k) = (refl, refl)
      go (done r n) = (refl, refl)

  pub acts_on : (c : Action) → IsOn (acts c (area_of m)) (on_loop c m)
  acts_on (put f) = settled plain refusal (put_in f)
  acts_on (hop i) = settled hopped no_hop (hop_in i)
  acts_on take = settled taken no_take take_in
  acts_on (local i c) = settled plain refusal (local_by c i)
  acts_on (drain b) = settled drained no_drain (drain_in b)
  acts_on owes = (refl, (settled owing no_owed (reads owed_in)).1)
  acts_on (save out) = (refl, refl)

-- ---- what is read off an answer is what happened

-- a call that the line refuses where the area does: every one but a put of what is no frame, and a save, which the line
-- does not have
abbrev pub fair : Action → Bool
fair (put f) = ltb f frames
fair (hop i) = true
fair take = true
fair (local i c) = true
fair (drain b) = true
fair owes = true
fair (save out) = false

pub record Reads (c : Action) (r : Answer) (es : List (line.Event papers)) : Type 0 where
  pub puts : put_by c r ≡ told.puts es
  pub taken : taken_by c r ≡ told.taken es
  pub handed : (i : ℕ) → handed_by i c r ≡ told.handed es i
  pub called : (i : ℕ) → call_seen i c r ≡ told.each (λ e. told.calls_in (told.turn_by i e)) es
  pub turned : is_drain c ≡ false → (i : ℕ) → turn_seen i c r ≡ told.turns es i
  pub hops : hops_by c r ≡ told.hops_made es
  pub refused : cond (fair c) (refused_by (call c) r) 0 ≡ told.refusals es

-- the loop after an action is that of the line after its calls, and its answer tells what happened
pub record Follows (c : Action) (l : line.Loop papers) (p : Loop × Answer)
    (q : line.Loop papers × List (line.Event papers)) : Type 0 where
  pub loop : p.0 ≡ to_loop q.0
  pub reads : Reads c p.1 q.1

not_zero : (k : ℕ) → (k ≡ 0 → ⊥) → ◌≡◌ {A = ℕ} (cond (eqb k 0) 0 1) 1
not_zero k h = rw (ne_eqb k 0 h)

no_if : {A : Type 0} (k : ℕ) (x : A) → (k ≡ 0 → ⊥) → if (eqb k 0) x ≡ []
no_if k x h = rw (ne_eqb k 0 h)

is_if : {A : Type 0} (k : ℕ) (x : A) → k ≡ 0 → if (eqb k 0) x ≡ x ∷ []
is_if k x h = rw (eq-eqb k 0 h)

-- the same device, or another
same_device : {A : Type 0} (i j : ℕ) (xs : List A) → cond (eqb i j) xs [] ≡ if_same i j xs
same_device i j xs = go (eqb i j) refl
  where
    go : (s : Bool) → eqb i j ≡ s → cond s xs [] ≡ if_same i j xs
    go true e = let z : i ≡ j = eqb-true i j e in rw z (sym (here j xs))
    go false e = sym (elsewhere i j xs (eqb-false i j e))

-- what is made of nothing where the numbers differ
same_map : {A B : Type 0} (g : List A → List B) (i j : ℕ) (xs : List A) → g [] ≡ [] →
    g (if_same i j xs) ≡ if_same i j (g xs)
same_map g zero zero xs e = refl
same_map g zero (suc j) xs e = e
same_map g (suc i) zero xs e = e
same_map g (suc i) (suc j) xs e = same_map g i j xs e

-- what is read where a call is refused, and where it is accepted
refused_same : {A : Type 0} (i j k : ℕ) (x : A) → (k ≡ 0 → ⊥) → if (eqb i j && eqb k 0) x ≡ []
refused_same i j k x h = rw (ne_eqb k 0 h, and-false (eqb i j))

accepted_same : {A : Type 0} (i j k : ℕ) (x : A) → k ≡ 0 → if (eqb i j && eqb k 0) x ≡ if_same i j (x ∷ [])
accepted_same i j k x h = rw (eq-eqb k 0 h, and-true (eqb i j)) (same_device i j (x ∷ []))

-- put
put_follows : (f : ℕ) (l : line.Loop papers) (o : Outcome ℕ) (p : Option (line.Loop papers)) → ltb f frames ≡ true →
    Alike ℕ (Unit {0}) (λ r b. r ≡ 0) o (Option.map (λ x. (x, tt)) (Option.map (λ l'. flat.flat l') p)) →
    Follows (put f) l (settle plain refusal (to_loop l) o)
    (line.firstly (line.reply l (Option.map (λ l'. (l', line.was_put f)) p)).1
    ((line.reply l (Option.map (λ l'. (l', line.was_put f)) p)).0, []))
put_follows f l o none h (both_refuse k z) =
    record {
      loop = refl;
      reads = record {
        puts = no_if k f z;
        taken = refl;
        handed = λ i. refl;
        called = λ i. refl;
        turned = λ q i. refl;
        hops = refl;
        refused = rw h
            (not_zero k z);
      };
    }
put_follows f l o (some q) h (both_do r m x b e t) =
    record {
      loop = e;
      reads = record {
        puts = is_if r f t;
        taken = refl;
        handed = λ i. refl;
        called = λ i. refl;
        turned = λ q i. refl;
        hops = refl;
        refused = rw (h, t);
      };
    }

-- a local call, whichever it is
module _ (i : ℕ) (x : Local) where
  local_follows : (l : line.Loop papers) (o : Outcome ℕ) (p : Option (line.Loop papers)) →
      Alike ℕ (Unit {0}) (λ r b. r ≡ 0) o (Option.map (λ y. (y, tt)) (Option.map (λ l'. flat.flat l') p)) →
      Follows (local i x) l (settle plain refusal (to_loop l) o)
      (line.firstly (line.reply l (Option.map (λ l'. (l', line.called i x)) p)).1
      ((line.reply l (Option.map (λ l'. (l', line.called i x)) p)).0, []))
  local_follows l o none (both_refuse k z) =
      record {
        loop = refl;
        reads = record {
          puts = refl;
          taken = refl;
          handed = λ j. refl;
          called = λ j. refused_same j i k x z;
          turned = λ q j. rw (refused_same j i k x z);
          hops = refl;
          refused = not_zero k z;
        };
      }
  local_follows l o (some q) (both_do r m y b e t) =
      record {
        loop = e;
        reads = record {
          puts = refl;
          taken = refl;
          handed = λ j. refl;
          called = λ j. accepted_same j i r x t
              ∙ sym (append-nil _ ∙ same_map (λ u. told.calls_in u) j i (told.does x ∷ []) refl);
          turned = λ q j. rw (accepted_same j i r x t)
              (same_map (λ u. map (λ (y : Local). told.does y) u) j i (x ∷ []) refl ∙ sym (append-nil _));
          hops = refl;
          refused = rw t;
        };
      }

-- take
take_follows : (l : line.Loop papers) (o : Outcome TakeAnswer) (p : Option (line.Loop papers × ℕ)) →
    Alike TakeAnswer ℕ (λ r f. (r.refusal ≡ 0) × (r.frame ≡ f)) o (Option.map (λ q. (flat.flat q.0, q.1)) p) →
    Follows take l (settle taken no_take (to_loop l) o)
    (line.firstly (line.reply l (Option.map (λ q. (q.0, line.was_taken q.1)) p)).1
    ((line.reply l (Option.map (λ q. (q.0, line.was_taken q.1)) p)).0, []))
take_follows l o none (both_refuse k z) =
    record {
      loop = refl;
      reads =
          record {
            puts = refl;
            taken = no_if k 0 z;
            handed = λ i. refl;
            called = λ i. refl;
            turned = λ q i. refl;
            hops = refl;
            refused = not_zero k z;
          };
    }
take_follows l o (some q) (both_do r m x b e t) =
    record {
      loop = e;
      reads = record {
        puts = refl;
        taken = is_if r.refusal r.frame t.0
            ∙ ap (λ (f : ℕ). f ∷ []) t.1;
        handed = λ i. refl;
        called = λ i. refl;
        turned = λ q i. refl;
        hops = refl;
        refused = rw t.0;
      };
    }

hop_follows : (j : ℕ) (l : line.Loop papers) (o : Outcome HopAnswer) (p : Option (line.Loop papers × Option Got)) →
    Alike HopAnswer (Option Got) (λ r b. (r.refusal ≡ 0) × (hop_tells r ≡ listed b)) o
    (Option.map (λ q. (flat.flat q.0, q.1)) p) →
    Follows (hop j) l (settle hopped no_hop (to_loop l) o)
    (line.firstly (line.reply l (Option.map (λ q. (q.0, line.hopped j q.1)) p)).1
    ((line.reply l (Option.map (λ q. (q.0, line.hopped j q.1)) p)).0, []))
hop_follows j l o none (both_refuse k z) =
    record {
      loop = refl;
      reads = record {
        puts = refl;
        taken = refl;
        handed = λ i. same_device {A = Got} i j [] ∙ none_same i j;
        called = λ i. refl;
        turned = λ q i. rw (refused_same {A = told.Turn papers} i j k told.hops z);
        hops = rw (ne_eqb k 0 z);
        refused = not_zero k z;
      };
    }
hop_follows j l o (some q) (both_do r m x b e t) =
    record {
      loop = e;
      reads =
          record {
            puts = refl;
            taken = refl;
            handed = λ i. same_device i j (hop_tells r) ∙ ap (λ (g : List Got). if_same i j g) t.1
                ∙ sym (append-nil (if_same i j (listed q.1)));
            called = λ i. sym (append-nil _
                ∙ same_map (λ (u : List (told.Turn papers)). told.calls_in u) i j (told.hops ∷ []) refl
                ∙ none_same i j);
            turned = λ w i. append-nil _ ∙ accepted_same i j r.refusal told.hops t.0 ∙ sym (append-nil _);
            hops = rw t.0;
            refused = rw t.0;
          };
    }

-- drain: of a row of hops nothing is read that is not read of a hop
module _ {A : Type 0} (g : line.Event papers → List A) (never : g line.refused ≡ [])
    (nor : (i : ℕ) (h : Option Got) → g (line.hopped i h) ≡ []) where
  hop_quiet : (l : line.Loop papers) (i : ℕ) → told.each g (line.answer l (line.hop i)).1 ≡ []
  hop_quiet l i = go (line.hop_at l i)
    where
      go : (o : Option (line.Loop papers × Option Got)) →
          told.each g (line.reply l (Option.map (λ p. (p.0, line.hopped i p.1)) o)).1 ≡ []
      go none = append-nil _ ∙ never
      go (some p) = append-nil _ ∙ nor i p.1

  hops_quiet : (l : line.Loop papers) (is : List ℕ) → told.each g (line.run l (map line.hop is)).1 ≡ []
  hops_quiet l [] = refl
  hops_quiet l (i ∷ is) =
      each_append g (line.answer l (line.hop i)).1 _
      ∙ rw (hop_quiet l i) (hops_quiet (line.answer l (line.hop i)).0 is)

  drain_quiet : (l : line.Loop papers) (b : ℕ) → [] ≡ told.each g (line.draining b l).events
  drain_quiet l b =
      let h = drain_is_hops papers b l in
      sym (ap (λ (p : line.Loop papers × List (line.Event papers)). told.each g p.1) (sym h.1)
      ∙ hops_quiet l h.0)

handed_at_lem : (i h b : ℕ) (why : line.Stop papers) →
    handed_by i (drain b) (drained (drain_answer h why)) ≡ handed_at papers i why
handed_at_lem i h b line.no_hop_made = same_device {A = Got} i 0 [] ∙ none_same i 0
handed_at_lem i h b line.spent = same_device {A = Got} i 0 [] ∙ none_same i 0
handed_at_lem i h b (line.handing j (got x e)) = same_device i j (got x e ∷ [])
handed_at_lem i h b (line.handing j (reported k)) = same_device i j (reported k ∷ [])

drain_follows : (b : ℕ) (l : line.Loop papers) →
    Follows (drain b) l (settle drained no_drain (to_loop l) (drain_in b (to_loop l))) (line.run l (line.drain b ∷ []))
drain_follows b l =
    let d = line.draining b l in
    let es = d.events in
    rw (drained_alike b 0 l, append-nil es)
    (record {
      loop = refl;
      reads =
          record {
            puts = drain_quiet (λ e. told.put_by e) refl (λ i h. refl) l b;
            taken = drain_quiet (λ e. told.taken_by e) refl (λ i h. refl) l b;
            handed = λ i. handed_at_lem i (0 + told.hops_made es) b d.stop ∙ sym ((drain_stops papers b l).alone i);
            called = λ i. drain_quiet (λ e. told.calls_in (told.turn_by i e)) refl (λ j h. no_call i j) l b;
            turned = λ q i. let z : true ≡ false = q in let y : ◌≡◌ {A = ℕ} 0 1 = cc in absurd (omega arith);
            hops = hops_told (told.hops_made es) d.stop;
            refused = refused_told (told.hops_made es) d.stop ∙ sym (drain_is_hops papers b l).2;
          };
    })
  where
    no_call : (i j : ℕ) → told.calls_in (if_same {A = told.Turn papers} i j (told.hops ∷ [])) ≡ []
    no_call i j =
        same_map (λ (u : List (told.Turn papers)). told.calls_in u) i j (told.hops ∷ []) refl ∙ none_same i j

    hops_told : (n : ℕ) (why : line.Stop papers) → (drain_answer (0 + n) why).hops ≡ n
    hops_told n line.no_hop_made = omega arith
    hops_told n line.spent = omega arith
    hops_told n (line.handing j (got x e)) = omega arith
    hops_told n (line.handing j (reported k)) = omega arith

    refused_told : (n : ℕ) (why : line.Stop papers) →
        ◌≡◌ {A = ℕ} (cond (eqb (drain_answer (0 + n) why).refusal 0) 0 1) 0
    refused_told n line.no_hop_made = refl
    refused_told n line.spent = refl
    refused_told n (line.handing j (got x e)) = refl
    refused_told n (line.handing j (reported k)) = refl

-- a put of what is no frame refuses, and is no call of the line
bad_follows : (f : ℕ) (l : line.Loop papers) → ltb f frames ≡ false →
    Follows (put f) l (settle plain refusal (to_loop l) (put_in f (to_loop l))) (l, [])
unfolding put_in
bad_follows f l e = rw e
    (record {
      loop = refl;
      reads =
          record {
            puts = refl;
            taken = refl;
            handed = λ i. refl;
            called = λ i. refl;
            turned = λ q i. refl;
            hops = refl;
            refused = rw e;
          };
    })

-- ---- every action

pub follows : (c : Action) (l : line.Loop papers) → Follows c l (on_loop c (to_loop l)) (line.run l (calls c))
follows (put f) l = go (ltb f frames) refl
  where
    go : (t : Bool) → ltb f frames ≡ t →
        Follows (put f) l (settle plain refusal (to_loop l) (put_in f (to_loop l))) (line.run l (if t (line.put f)))
    go true e = put_follows f l (put_in f (to_loop l)) (line.push l f) e
        (rw ((same_flat papers).same_put l f) at (put_alike f (flat.flat l) (ltb-true _ _ e)))
    go false e = bad_follows f l e
follows (hop i) l = hop_follows i l (hop_in i (to_loop l)) (line.hop_at l i)
    (rw ((same_flat papers).same_hop l i) at (hop_alike i (flat.flat l)))
follows take l = take_follows l (take_in (to_loop l)) (line.take_out l)
    (rw ((same_flat papers).same_take l) at (take_alike (flat.flat l)))
follows (local i c) l =
    local_follows i c l _ (line.call_at l i c)
    (rw ((same_flat papers).same_call l i c) at (local_alike c i (flat.flat l)))
follows (drain b) l = drain_follows b l
follows owes l =
    record {
      loop = refl;
      reads =
          record {
            puts = refl;
            taken = refl;
            handed = λ i. refl;
            called = λ i. refl;
            turned = λ q i. refl;
            hops = refl;
            refused = refl;
          };
    }
follows (save out) l =
    record {
      loop = refl;
      reads =
          record {
            puts = refl;
            taken = refl;
            handed = λ i. refl;
            called = λ i. refl;
            turned = λ q i. refl;
            hops = refl;
            refused = refl;
          };
    }
