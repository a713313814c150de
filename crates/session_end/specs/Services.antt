-- A session with the seats of its deliverer, behind the join of all workers.
use Rattle.std.specs.Prelude.{◌≡◌, ◌||◌, ℕ, Bool, true, false, Option, None, List, [], ◌∷◌, ◌++◌, map}
use Rattle.std.specs.List.{flat_map, fold}
use Rattle.channel_core.specs.Numbers.{or_else}
use Rattle.turn_lock.specs.Runs.{AllFit}
use Rattle.session_run.specs.Adds.{AddsCalls}
use Rattle.session_feeds.specs.Marks.{Told}
use Rattle.session_feeds.specs.Puts.{stopped_by, trial_calls}
use Rattle.session_feeds.specs.Sessions.{Account}
use Rattle.session_feeds.specs.declared.session.SessionFault.{SessionFault}
use Rattle.session_feeds.specs.declared.session.Verdict.{Verdict}
use Rattle.session_delivery.specs.Answers.{marks_of}
use Rattle.session_delivery.specs.declared.deliver_end.DeliverEnd.{DeliverEnd}
use Rattle.session_end.specs.declared.delivering.Service.{Service}
use Rattle.session_end.specs.declared.leftover.Progress.{Progress}
use Rattle.session_end.specs.Leftovers.{Answered, IsAnswered, IsLeft, LeftState, LeftStep, MayServe, account_left, at_first_left, left_after, left_by, left_calls, left_shelf_calls}

-- what counts of the steps so far
abbrev pub state_of : Progress → LeftState
state_of p = record { stopped = p.stopped; refused = p.refused; over = p.over }

module _ {S C : Type 0} (stands : S → Account C → Type 0) (out : S → List ℕ)
    (begun : S → Bool) (refused : S → Option SessionFault) where
  -- a verdict was carried out: its items were put in, and its feeders given back
  pub record Answers {F : Type 0} (told : F → Told) (old : Service S) (at : Progress)
      (verdict : Verdict F) (a : Answered) (new : Service S) (now : Progress)
      : Type 0 where
    pub puts : a.puts ≡ verdict.puts
    pub last : a.last ≡ verdict.last
    pub marks : a.marks ≡ marks_of told verdict.feeders.items
    pub is_answered : IsAnswered at.stopped a
    pub stopped : now.stopped ≡ (at.stopped || fold stopped_by false a.trials)
    pub unrefused : now.refused ≡ at.refused
    pub over : now.over ≡ at.over
    pub end : AddsCalls old.end (flat_map trial_calls a.trials) new.end
    pub shelf : new.shelf ≡ old.shelf
    pub account :
        (c : Account C)
        → stands old.session c
        → stands new.session
        (record c { back = c.back ++ map (λ mark. (mark, None)) a.marks })
    pub none_out : out new.session ≡ []
    pub was_begun : begun new.session ≡ begun old.session
    pub was_refused : refused new.session ≡ refused old.session

  -- one step was made
  pub record Serves (old : Service S) (at : Progress) (step : LeftStep) (new : Service S)
      (now : Progress) : Type 0 where
    pub may : MayServe (state_of at) step
    pub state : state_of now ≡ left_after (state_of at) step
    pub end : AddsCalls old.end (left_calls step) new.end
    pub shelf : AddsCalls old.shelf (left_shelf_calls step) new.shelf
    pub account :
        (a : Account C)
        → stands old.session a
        → stands new.session (account_left (step ∷ []) a)
    pub none_out : out new.session ≡ []
    pub was_begun : begun new.session ≡ true
    pub was_refused : refused new.session ≡ now.refused

  -- these steps were made
  pub record Serving (old : Service S) (steps : List LeftStep) (new : Service S)
      (now : Progress) : Type 0 where
    pub may : AllFit left_after MayServe at_first_left steps
    pub state : state_of now ≡ left_by steps
    pub end : AddsCalls old.end (flat_map left_calls steps) new.end
    pub shelf : AddsCalls old.shelf (flat_map left_shelf_calls steps) new.shelf
    pub account :
        (a : Account C) → stands old.session a → stands new.session (account_left steps a)
    pub none_out : out new.session ≡ []
    pub was_begun : begun new.session ≡ true
    pub was_refused : refused new.session ≡ now.refused

module _ {S C : Type 0} (stands : S → Account C → Type 0) (out : S → List ℕ)
    (refused : S → Option SessionFault) where
  -- what was left behind a deliverer that ended so was served, up to this refusal
  pub record Leaves (old : Service S) (ended : Option DeliverEnd) (new : Service S)
      (answer : Option SessionFault)
      : Type 0 where
    pub steps : List LeftStep
    pub left : IsLeft ended steps
    pub refusal : answer ≡ (left_by steps).refused
    pub end : AddsCalls old.end (flat_map left_calls steps) new.end
    pub shelf : AddsCalls old.shelf (flat_map left_shelf_calls steps) new.shelf
    pub account :
        (a : Account C) → stands old.session a → stands new.session (account_left steps a)
    pub none_out : out new.session ≡ []
    pub was_refused :
        refused new.session ≡ or_else (left_by steps).refused (refused old.session)
