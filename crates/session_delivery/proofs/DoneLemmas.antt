-- What the deliverer ends with, once all workers were joined and the session has its feeders back.
use Rattle.std.proofs.Common.{◌≡◌, ℕ, ◌+◌, Bool, true, false, Option, None, List, [], ◌∷◌, ◌++◌, map, refl, sym, ap, ◌∙◌, subst, append_assoc, arith}
use Rattle.std.specs.Prelude.{IfOk, Result, Ok, Err, is_some}
use Rattle.std.specs.List.{All, flat_map}
use Rattle.std.proofs.lemmas.List.{append-nil}
use Rattle.std.proofs.lemmas.List.Elements.{All-head, All-nil, All-tail}
use Rattle.chan_io.specs.Calls.{IsCallOf}
use Rattle.chan_io.specs.declared.running_call.RunningCall.{RunningCall}
use Rattle.chan_values.specs.declared.item.Item.{Item}
use Rattle.turn_lock.specs.Seats.{number_of}
use Rattle.session_feeds.specs.Marks.{ComesBack, IsNew, Told, times}
use Rattle.session_feeds.specs.Sessions.{Account, AllCameBack}
use Rattle.session_feeds.specs.declared.feeder.Came.{Came}
use Rattle.session_feeds.specs.declared.session.SessionFault.{SessionFault}
use Rattle.session_crews.specs.Crews.{Joins}
use Rattle.session_crews.specs.FeedTurns.{FeedPart, IsFeedPart, WasStarted, no_refusals, part_told}
use Rattle.session_crews.specs.Gathers.{Gathers}
use Rattle.session_crews.specs.Places.{feeders_in}
use Rattle.session_crews.specs.Seats.{EndLock, EndSeat, ShelfLock, ShelfSeat}
use Rattle.session_crews.specs.declared.feed_done.FeedDone.{FeedDone}
use Rattle.session_crews.proofs.GathersLemmas.{Gathers-none}
use Rattle.session_crews.proofs.MarkLemmas.{ComesBack-beside, ComesBack-left, ComesBack-same}
use Rattle.session_delivery.specs.Answers.{ended_by, feeders_left, marks_of}
use Rattle.session_delivery.specs.DeliverSteps.{Serving}
use Rattle.session_delivery.specs.Delivering.{DeliverStep, begun_in, items_in, left_in, parcels_in, step_calls, step_shelf_calls}
use Rattle.session_delivery.specs.Deliveries.{DelivererPart, IsDelivererStart, IsDelivery, account_after, came_back, own_delivery}
use Rattle.session_delivery.specs.declared.deliver_done.DeliverDone.{DeliverDone}
use Rattle.session_delivery.specs.declared.deliver_done.FromDeliverer.{FromDeliverer}
use Rattle.session_delivery.specs.declared.deliver_end.DeliverEnd.{DeliverEnd}
use Rattle.session_delivery.specs.declared.delivered.Delivered.{Delivered}
use Rattle.session_delivery.specs.declared.deliverer.Deliverer.{Deliverer}
use Rattle.session_delivery.proofs.BackLemmas.{ComesBack-new}
use Rattle.session_delivery.proofs.ListLemmas.{none_stands}

module _ {F : Type 0} (told : F → Told) where
  -- feeders that were not started gave nothing
  new_pieces : (fs : List F) → All (λ f. IsNew (told f)) fs
      → flat_map (λ (t : Told). t.pieces) (map told fs) ≡ []
  new_pieces [] fresh = refl
  new_pieces (f ∷ fs) fresh =
      ap (λ l. l ++ flat_map (λ (t : Told). t.pieces) (map told fs))
      (All-head (λ g. IsNew (told g)) f fs fresh).no_pieces
      ∙ new_pieces fs (All-tail (λ g. IsNew (told g)) f fs fresh)

  new_back : (fs : List F) → All (λ f. IsNew (told f)) fs
      → map (λ (t : Told). (t.mark, t.came)) (map told fs)
      ≡ map {B = ℕ × Option Came} (λ m. (m, None)) (marks_of told fs)
  new_back [] fresh = refl
  new_back (f ∷ fs) fresh =
      ap (λ (c : Option Came). ((told f).mark, c) ∷ map (λ (t : Told). (t.mark, t.came)) (map told fs))
      (All-head (λ g. IsNew (told g)) f fs fresh).on
      ∙ ap (λ l. ((told f).mark, None) ∷ l)
      (new_back fs (All-tail (λ g. IsNew (told g)) f fs fresh))

module _ {S C W : Type 0} (stands : S → Account C → Type 0) (out : S → List ℕ)
    (begun : S → Bool) (refused : S → Option SessionFault) (faults : W → ℕ) where
  -- the same, read through the values that the code names
  pub IsDelivery-from : (session session' : S) (end end' : EndSeat) (shelf shelf' : ShelfSeat)
      (done : DeliverDone W S)
      → session' ≡ session
      → end' ≡ end
      → shelf' ≡ shelf
      → IsDelivery stands out begun refused faults session end shelf done
      → IsDelivery stands out begun refused faults session' end' shelf' done
  IsDelivery-from session session' end end' shelf shelf' done s e h so =
      subst (λ x. IsDelivery stands out begun refused faults x end' shelf' done) (sym s)
      (subst (λ x. IsDelivery stands out begun refused faults session x shelf' done) (sym e)
      (subst (λ x. IsDelivery stands out begun refused faults session end x done) (sym h) so))

module _ {S C W : Type 0} (stands : S → Account C → Type 0) (out : S → List ℕ)
    (begun : S → Bool) (refused : S → Option SessionFault) (faults : W → ℕ) (session0 : S)
    (end0 : EndSeat) (shelf0 : ShelfSeat) where
  -- a call was started with its promise
  pub IsDelivererStart-of :
      (result : Result (RunningCall (DeliverDone W S) (FromDeliverer S)) (DeliverDone W S))
      (promise : FromDeliverer S)
      → IfOk result
      (IsCallOf
      (λ (p : FromDeliverer S) (done : DeliverDone W S).
      IsDelivery stands out begun refused faults p.session.value p.end.value p.shelf.value done)
      promise)
      → promise.end.value ≡ end0
      → promise.shelf.value ≡ shelf0
      → promise.session.value ≡ session0
      → IfOk result
      (IsDelivererStart stands out begun refused faults session0 end0 shelf0)
  IsDelivererStart-of (Ok call) promise is_call end shelf session = record {
    promise = promise;
    is_call = is_call;
    end = end;
    shelf = shelf;
    session = session;
  }
  IsDelivererStart-of (Err done) promise is_call end shelf session = tt

  -- what a deliverer did that was not started
  abbrev nothing : DelivererPart
  nothing = record {
    number = number_of end0;
    shelf_number = number_of shelf0;
    steps = [];
    ended = None;
    feeders = [];
  }

  -- it was not started
  pub IsDelivery-none : (done : DeliverDone W S)
      → begun session0 ≡ false
      → out session0 ≡ []
      → done.session ≡ session0
      → done.end ≡ end0
      → done.shelf ≡ shelf0
      → done.refusals ≡ no_refusals
      → done.ended ≡ None
      → IsDelivery stands out begun refused faults session0 end0 shelf0 done
  IsDelivery-none done unbegun none_out session end shelf refusals ended = record {
    part = nothing;
    fits = record {
      may = tt;
      ends = refl;
      alone = λ is. (refl, refl);
      fits = All-nil IsFeedPart;
      back = λ q. refl;
    };
    number = refl;
    shelf_number = refl;
    ended = sym ended;
    end_made = subst (λ s. Gathers end0 [] [] s) (sym end) (Gathers-none end0);
    shelf_made = subst (λ s. Gathers shelf0 [] [] s) (sym shelf) (Gathers-none shelf0);
    account =
        λ a so. subst (λ s. stands s (account_after nothing a)) (sym session)
        (subst (stands session0)
        (λ i. record {
          contents = a.contents;
          taken = sym (append-nil a.taken) i;
          given = (sym (append-nil a.given) ∙ sym (append-nil (a.given ++ []))) i;
          back = sym (append-nil a.back) i;
        })
        so);
    none_out = ap out session ∙ none_out;
    was_begun = ap begun session ∙ unbegun;
    was_refused = λ is. absurd (cc);
    refusals = refusals;
    ran = λ clean. All-nil WasStarted;
    cause =
        λ is. absurd (let e : true ≡ false = sym is ∙ ap (λ r. r.no_thread) refusals in cc);
  }

module _ {F : Type 0} (told : F → Told) {W : Type 0} (faults : W → ℕ) (ends : EndLock)
    (shelves : ShelfLock) {S C : Type 0} (stands : S → Account C → Type 0)
    (out : S → List ℕ) (begun : S → Bool) (refused : S → Option SessionFault)
    (session0 : S) (end0 : EndSeat) (shelf0 : ShelfSeat) where
  module _ (steps : List DeliverStep) (d : Deliverer W S F) (last : Delivered W F)
      (so : Serving told faults ends shelves stands out begun refused session0 end0 shelf0 steps d
      last) where
    -- the feeders that have to come back are those that were begun, and those that were left
    pub back_order : (parts : List FeedPart) (done : FeedDone W F)
        → Joins told faults
        (own_delivery end0 shelf0 (flat_map step_calls steps) (flat_map step_shelf_calls steps)
        (flat_map begun_in steps) (ended_by last)) [] parts done
        → ComesBack (times (out d.session)) (map told (feeders_in done.feeders.list))
        (times (flat_map left_in steps))
    back_order parts done joins =
        subst (λ l. ComesBack (times (out d.session)) l (times (flat_map left_in steps)))
        (sym joins.feeders)
        (ComesBack-left (times (out d.session)) (map part_told parts)
        (λ q. 0 + times (flat_map left_in steps) q) (times (flat_map left_in steps))
        (λ q. let e : 0 + times (flat_map left_in steps) q ≡ times (flat_map left_in steps) q =
        omega arith in e)
        (ComesBack-same
        (λ q. times (flat_map begun_in steps) q + times (flat_map left_in steps) q)
        (times (out d.session)) (map part_told parts)
        (λ q. 0 + times (flat_map left_in steps) q) so.is_out
        (ComesBack-beside (times (flat_map begun_in steps)) (map part_told parts) (λ q. 0)
        (times (flat_map left_in steps)) joins.back)))

    -- the marks of the feeders that were left
    left_marks : (left : List F) → left ≡ feeders_left last
        → marks_of told left ≡ flat_map left_in steps
    left_marks left is = ap (marks_of told) is ∙ so.left

    left_fresh : (left : List F) → left ≡ feeders_left last → All (λ f. IsNew (told f)) left
    left_fresh left is = subst (All (λ f. IsNew (told f))) (sym is) so.fresh

    -- those that were left come back last
    pub left_order : (left : List F) (session : S)
        → left ≡ feeders_left last
        → ((q : ℕ) → times (out session) q ≡ times (flat_map left_in steps) q)
        → ComesBack (times (out session)) (map told left) (λ q. 0)
    left_order left session is out_is =
        ComesBack-new told (times (out session)) left (left_fresh left is)
        (λ q. out_is q ∙ ap (λ l. times l q) (sym (left_marks left is)))

    module _ (parts : List FeedPart) (done : FeedDone W F) (left : List F)
        (session1 session2 : S)
        (joins : Joins told faults
        (own_delivery end0 shelf0 (flat_map step_calls steps) (flat_map step_shelf_calls steps)
        (flat_map begun_in steps) (ended_by last)) [] parts done)
        (is_left : left ≡ feeders_left last)
        (back : AllCameBack (stands d.session) (map told (feeders_in done.feeders.list))
        (stands session1))
        (back_left : AllCameBack (stands session1) (map told left) (stands session2)) where
      abbrev part : DelivererPart
      part = record {
        number = number_of end0;
        shelf_number = number_of shelf0;
        steps = steps;
        ended = ended_by last;
        feeders = parts;
      }

      given_now : (given : List Item)
          → (given ++ flat_map (λ (t : Told). t.pieces) (map told (feeders_in done.feeders.list)))
          ++ flat_map (λ (t : Told). t.pieces) (map told left)
          ≡ given ++ flat_map (λ (t : Told). t.pieces) (map part_told parts)
      given_now given =
          ap (λ l. (given
          ++ flat_map (λ (t : Told). t.pieces) (map told (feeders_in done.feeders.list))) ++ l)
          (new_pieces told left (left_fresh left is_left))
          ∙ append-nil
          (given ++ flat_map (λ (t : Told). t.pieces) (map told (feeders_in done.feeders.list)))
          ∙ ap (λ ts. given ++ flat_map (λ (t : Told). t.pieces) ts) joins.feeders

      back_now : (before : List (ℕ × Option Came))
          → (before
          ++ map (λ (t : Told). (t.mark, t.came)) (map told (feeders_in done.feeders.list)))
          ++ map (λ (t : Told). (t.mark, t.came)) (map told left)
          ≡ before ++ came_back part
      back_now before =
          append_assoc before
          (map (λ (t : Told). (t.mark, t.came)) (map told (feeders_in done.feeders.list)))
          (map (λ (t : Told). (t.mark, t.came)) (map told left))
          ∙ ap (λ ts. before
          ++ (map (λ (t : Told). (t.mark, t.came)) ts
          ++ map (λ (t : Told). (t.mark, t.came)) (map told left))) joins.feeders
          ∙ ap (λ l. before ++ (map (λ (t : Told). (t.mark, t.came)) (map part_told parts) ++ l))
          (new_back told left (left_fresh left is_left)
          ∙ ap (λ ms. map {B = ℕ × Option Came} (λ m. (m, None)) ms) (left_marks left is_left))

      account_now : (a : Account C) → stands session0 a → stands session2 (account_after part a)
      account_now a first =
          subst (stands session2)
          (λ i. record {
            contents = a.contents;
            taken = a.taken ++ flat_map parcels_in steps;
            given = given_now (a.given ++ flat_map items_in steps) i;
            back = back_now a.back i;
          })
          (back_left _ (back _ (so.account a first)))

      -- it has ended
      pub IsDelivery-of : (ended : Option DeliverEnd)
          → ended ≡ ended_by last
          → is_some (ended_by last) ≡ true
          → done.started ≡ true
          → ((q : ℕ) → times (out session2) q ≡ 0)
          → begun session2 ≡ begun d.session
          → refused session2 ≡ refused d.session
          → IsDelivery stands out begun refused faults session0 end0 shelf0
          (record {
            session = session2;
            end = done.end;
            shelf = done.shelf;
            spawner = done.spawner;
            refusals = done.refusals;
            ended = ended;
          })
      IsDelivery-of ended ended_is last_is started none_out begun_is refused_is = record {
        part = part;
        fits = record {
          may = so.may;
          ends = ap (λ s. s.ended) so.state;
          alone =
              λ none. absurd
              (let e : false ≡ true = sym (ap is_some none) ∙ last_is in cc);
          fits = joins.fits;
          back = joins.back;
        };
        number = refl;
        shelf_number = refl;
        ended = sym ended_is;
        end_made = joins.end_made;
        shelf_made = joins.shelf_made;
        account = account_now;
        none_out = none_stands (out session2) none_out;
        was_begun = begun_is ∙ so.was_begun ∙ ap (λ s. s.begun) so.state;
        was_refused =
            λ is. refused_is ∙ so.was_refused (ap (λ s. s.begun) so.state ∙ is);
        refusals = joins.refusals;
        ran = joins.ran started;
        cause = joins.cause;
      }
