-- A command without subcommands, whose `help` is none either, gives at most one kind of error.
use Rattle.std.proofs.Common.{◌≡◌, ℕ, ◌+◌, ◌≤◌, ◌&&◌, Bool, true, false, not, zero, suc, List}
use Rattle.std.proofs.Common.{[], ◌∷◌, length, drop, Option, Some, None, arith, codes}
use Rattle.std.proofs.lemmas.Bool.{false≢true}
use Rattle.std.specs.Prelude.{if◌then◌else◌, nat_lt, ◌==◌, ◌||◌, min, is_some, slice_get}
use Rattle.std.specs.Prelude.{encode_utf8}
use Rattle.std.specs.List.{list_any}
use Rattle.std.specs.Option.{option_map_or}
use Rattle.std.specs.Str.{bytes_eq, chars}
use Rattle.clap.specs.Facts.{explicit_source, parser_of_value, unwrap_or_range}
use Rattle.clap.specs.Faults.{action_fault, built_fault, bundle_fault, bundle_step_fault}
use Rattle.clap.specs.Faults.{check_fault, count_fault, default_fault, defaults_fault}
use Rattle.clap.specs.Faults.{entered_fault}
use Rattle.clap.specs.Faults.{flag_word_fault, flags_fault, given_default_fault, level_fault}
use Rattle.clap.specs.Faults.{long_fault, option_fault, other_fault, positional_fault, react_fault}
use Rattle.clap.specs.Faults.{set_fault, settle_fault, short_fault, step_fault, stray_fault}
use Rattle.clap.specs.Faults.{turn_fault, use_fault, walk_fault, word_fault}
use Rattle.clap.specs.Kinds.{Kinds, check_kinds, or_else, range_kinds, request_kinds, value_kinds}
use Rattle.clap.specs.Kinds.{values_kinds}
use Rattle.clap.specs.Lexer.{long_of, short_of}
use Rattle.clap.specs.Matches.{count_text}
use Rattle.clap.specs.Simple.{App, Shape, entered, names_of}
use Rattle.clap.specs.Takes.{is_given}
use Rattle.clap.specs.Walk as walk
use Rattle.clap.specs.Walk.{Held, Names, Row, Rule, Step, Text, Waiting, Walk, action_of, arg_by_id}
use Rattle.clap.specs.Walk.{arg_by_index, arg_by_long, arg_by_short, attached_value, count_of}
use Rattle.clap.specs.Walk.{finished, has_row, is_empty, is_pending, most_values, reacted, settled}
use Rattle.clap.specs.Walk.{subcommand_met, takes_several, takes_values, values_or_missing}
use Rattle.clap.specs.Walk.{walk_from, walked, with_default, word_met}
use Rattle.clap.specs.declared.builder.action.ArgAction.{ArgAction}
use Rattle.clap.specs.declared.builder.action.ArgAction.TheVariants as action
use Rattle.clap.specs.declared.builder.value_parser.ValueParser.{ValueParser}
use Rattle.clap.specs.declared.error.kind.ErrorKind.{ErrorKind}
use Rattle.clap.specs.declared.error.kind.ErrorKind.TheVariants as kind

record IsShort (kinds : Kinds) : Type 0 where
  is : length kinds ≤ 1

none : IsShort []
none = record { is = omega arith }

one : (k : ErrorKind) → IsShort (k ∷ [])
one k = record { is = omega arith }

either : (b : Bool) (x y : Kinds) → IsShort x → IsShort y → IsShort (if b then x else y)
either true x y p q = p
either false x y p q = q

first : (x y : Kinds) → IsShort x → IsShort y → IsShort (or_else x y)
first [] y p q = q
first (k ∷ ks) y p q = p

where_some : {X : Type 0} (f : X → Kinds) (o : Option X) → ((x : X) → IsShort (f x))
    → IsShort (option_map_or f o [])
where_some f None h = none
where_some f (Some x) h = h x

where_some_or : {X : Type 0} (f : X → Kinds) (o : Option X) (d : Kinds)
    → ((x : X) → IsShort (f x)) → IsShort d → IsShort (option_map_or f o d)
where_some_or f None d h p = p
where_some_or f (Some x) d h p = h x

short_value : (ignore_case : Bool) (p : ValueParser) (text : Text)
    → IsShort (value_kinds ignore_case p text)
short_value ignore_case p text = either _ _ _ none (one _)

short_values : (ignore_case : Bool) (p : ValueParser) (texts : List Text)
    → IsShort (values_kinds ignore_case p texts)
short_values ignore_case p [] = none
short_values ignore_case p (v ∷ vs) =
    first _ _ (short_value ignore_case p v) (short_values ignore_case p vs)

short_range : (least most n : ℕ) → IsShort (range_kinds least most n)
short_range least most n =
    either (nat_lt 0 least && n == 0) _ _ (one kind.InvalidValue)
    (either (least == most) _ _ (either (least == n) _ _ none (one kind.WrongNumberOfValues))
    (either (nat_lt n least) _ _ (one kind.TooFewValues)
    (either (nat_lt most n) _ _ (one kind.TooManyValues) none)))

short_request : (a : ArgAction) → IsShort (request_kinds a)
short_request action.Help = one _
short_request action.HelpShort = one _
short_request action.HelpLong = one _
short_request action.Version = one _
short_request _ = none

short_check : (a b c : Bool) → IsShort (check_kinds a b c)
short_check a b c = either a _ _ (one kind.DisplayHelpOnMissingArgumentOrSubcommand)
    (either b _ _ (one kind.MissingSubcommand)
    (either c _ _ (one kind.MissingRequiredArgument) none))

short_count : (a : Rule) (values : List Text) (rows : List Row)
    → IsShort (count_fault a values rows)
short_count a [] rows = short_value a.ignore_case (parser_of_value a.parser)
    (count_text (min (count_of a.id rows + 1) 255))
short_count a (v ∷ vs) rows = short_values a.ignore_case (parser_of_value a.parser) (v ∷ vs)

short_set : (again : Bool) (a : Rule) (values : List Text) (rows : List Row)
    → IsShort (set_fault again a values rows)
short_set again a values rows = first _ _ (either _ _ _ (one _) none) (short_values _ _ values)

short_action : (how : ArgAction) (again : Bool) (a : Rule) (values : List Text)
    (rows : List Row) → IsShort (action_fault how again a values rows)
short_action action.Set again a values rows = short_set again a values rows
short_action action.SetTrue again a values rows = short_set again a values rows
short_action action.SetFalse again a values rows = short_set again a values rows
short_action action.Append again a values rows = short_values _ _ values
short_action action.Count again a values rows = short_count a values rows
short_action action.Help again a values rows = one _
short_action action.HelpShort again a values rows = one _
short_action action.HelpLong again a values rows = one _
short_action action.Version again a values rows = one _

short_use : (again : Bool) (a : Rule) (values : List Text) (rows : List Row)
    → IsShort (use_fault again a values rows)
short_use again a values rows = first _ _
    (short_range (unwrap_or_range a.range).start_inclusive (most_values a) (length values))
    (short_action (action_of a) again a (values_or_missing a values) rows)

short_settle : (c : List Rule) (again : Bool) (h : Held) → IsShort (settle_fault c again h)
short_settle c again h = where_some
    (λ p. option_map_or (λ a. use_fault again a p.1 h.rows) (arg_by_id c p.0) []) h.pending
    (λ p. where_some (λ a. use_fault again a p.1 h.rows) (arg_by_id c p.0)
    (λ a. short_use again a p.1 h.rows))

short_react : (c : List Rule) (again : Bool) (a : Rule) (values : List Text) (h : Held)
    → IsShort (react_fault c again a values h)
short_react c again a values h =
    first _ _ (short_settle c again h) (short_use again a values (settled c h).rows)

short_option : (c : List Rule) (again : Bool) (a : Rule) (v : Option Text) (h : Held)
    → IsShort (option_fault c again a v h)
short_option c again a (Some v) h = short_react c again a (v ∷ []) h
short_option c again a None h = short_settle c again h

short_long : (c : List Rule) (again : Bool) (found : Option Rule) (v : Option Text) (h : Held)
    → IsShort (long_fault c again found v h)
short_long c again None v h = one kind.UnknownArgument
short_long c again (Some a) v h = either (takes_values a) _ _ (short_option c again a v h)
    (either (is_some v) _ _ (one kind.TooManyValues) (short_react c again a [] h))

short_short : (c : List Rule) (again : Bool) (found : Option Rule) (rest : Text) (h : Held)
    (next : Held → Kinds) → ((g : Held) → IsShort (next g))
    → IsShort (short_fault c again found rest h next)
short_short c again None rest h next more = one kind.UnknownArgument
short_short c again (Some a) rest h next more = either (takes_values a) _ _
    (short_option c again a (attached_value rest) h)
    (first _ _ (short_react c again a [] h) (more (reacted c a [] h)))

short_step : (c : List Rule) (again : Bool) (x : Option ℕ) (flags : Text) (skip : ℕ) (h : Held)
    (next : Text → ℕ → Held → Kinds)
    → ((rest : Text) (n : ℕ) (g : Held) → IsShort (next rest n g))
    → IsShort (bundle_step_fault c again x flags skip h next)
short_step c again None flags skip h next more = none
short_step c again (Some x) flags zero h next more =
    short_short c again (arg_by_short c x) (drop (length (encode_utf8 x)) flags) h
    (next (drop (length (encode_utf8 x)) flags) 0)
    (λ g. more (drop (length (encode_utf8 x)) flags) 0 g)
short_step c again (Some x) flags (suc skip) h next more =
    more (drop (length (encode_utf8 x)) flags) skip h

short_flags : (c : List Rule) (again : Bool) (k : ℕ) (flags : Text) (skip : ℕ) (h : Held)
    → IsShort (flags_fault c again k flags skip h)
unfolding flags_fault
short_flags c again zero flags skip h = none
short_flags c again (suc k) flags skip h =
    short_step c again (slice_get (chars flags) 0) flags skip h (flags_fault c again k)
    (λ rest n g. short_flags c again k rest n g)

short_flag_word : (c : List Rule) (again : Bool) (p : Option (Text × Option Text)) (word : Text)
    (h : Held) → IsShort (flag_word_fault c again p word h)
short_flag_word c again (Some p) word h = short_long c again (arg_by_long c p.0) p.1 h
short_flag_word c again None word h =
    where_some (λ flags. bundle_fault c again flags h) (short_of word)
    (λ flags. short_flags c again (length flags) flags h.skip (record h { skip = 0 }))

-- where `help` is no subcommand
short_help : (b disabled : Bool) (x : Kinds) → disabled ≡ true
    → IsShort (if b && not disabled then x else [])
short_help true true x e = none
short_help false true x e = none
short_help b false x e = absurd (false≢true e)

short_other : (s : Shape) (name : Option Text) (word : Text) (h : Held)
    → s.disable_help_subcommand ≡ true → IsShort (other_fault s name word h)
short_other s (Some name) word h e =
    short_help (bytes_eq name (codes "help")) s.disable_help_subcommand
    (kind.DisplayHelp ∷ kind.InvalidSubcommand ∷ []) e
short_other s None word h e = either (bytes_eq word (45 ∷ 45 ∷ [])) _ _ none
    (short_flag_word s.rules s.args_override_self (long_of word) word h)

short_word : (s : Shape) (names : Names) (trailing : Bool) (waiting : Waiting) (word : Text)
    (h : Held) → s.disable_help_subcommand ≡ true
    → IsShort (word_fault s names trailing waiting word h)
short_word s names trailing waiting word h e = either trailing _ _ none
    (short_other s (subcommand_met names waiting word) word h e)

-- where there is no subcommand
short_stray : (leaf : Bool) (x : Kinds) → leaf ≡ true
    → IsShort (if leaf then kind.UnknownArgument ∷ [] else x)
short_stray true x e = one kind.UnknownArgument
short_stray false x e = absurd (false≢true e)

short_positional : (c : List Rule) (again : Bool) (a : Rule) (h : Held)
    → IsShort (positional_fault c again a h)
short_positional c again a h =
    either (is_pending a h.pending && takes_several a) _ _ none (short_settle c again h)

short_value_word : (s : Shape) (position : ℕ) (h : Held) (step : Step) → s.is_leaf ≡ true
    → IsShort (step_fault s position h step)
short_value_word s position h walk.value e =
    where_some_or (λ a. positional_fault s.rules s.args_override_self a h)
    (arg_by_index s.rules position) (stray_fault s)
    (λ a. short_positional s.rules s.args_override_self a h)
    (short_stray s.is_leaf (kind.UnknownArgument ∷ kind.InvalidSubcommand ∷ []) e)
short_value_word s position h _ e = none

short_turn : (s : Shape) (names : Names) (w : Walk) (word : Text) → s.is_leaf ≡ true
    → s.disable_help_subcommand ≡ true → IsShort (turn_fault s names w word)
short_turn s names w word leaf e =
    let met = word_met s.rules names w.is_trailing w.waiting w.position word w.held in
    either (is_some w.stopped) _ _ none
    (first _ _ (short_word s names w.is_trailing w.waiting word w.held e)
    (short_value_word s w.position met.0 met.1 leaf))

short_walk : (s : Shape) (names : Names) (words : List Text) (w : Walk) → s.is_leaf ≡ true
    → s.disable_help_subcommand ≡ true → IsShort (walk_fault s names w words)
unfolding walk_fault
short_walk s names [] w leaf e = none
short_walk s names (word ∷ rest) w leaf e = first _ _ (short_turn s names w word leaf e)
    (short_walk s names rest (walked s.rules names w word) leaf e)

short_given : (a : Rule) (values : List Text) → IsShort (given_default_fault a values)
short_given a values = first _ _ (short_request (action_of a))
    (short_values a.ignore_case (parser_of_value a.parser) values)

short_default : (rows : List Row) (a : Rule) → IsShort (default_fault rows a)
short_default rows a =
    either (has_row a.id rows || is_empty a.defaults) _ _ none (short_given a a.defaults)

short_defaults : (rules : List Rule) (rows : List Row) → IsShort (defaults_fault rows rules)
unfolding defaults_fault
short_defaults [] rows = none
short_defaults (a ∷ rest) rows =
    first _ _ (short_default rows a) (short_defaults rest (with_default rows a))

short_checks : (s : Shape) (rows : List Row) (has_subcommand : Bool)
    → IsShort (check_fault s rows has_subcommand)
short_checks s rows has_subcommand = short_check
    (not has_subcommand
    && (s.arg_required_else_help && not (list_any (λ r. explicit_source r.source) rows)))
    (not has_subcommand && s.subcommand_required)
    (not (s.subcommand_negates_reqs && has_subcommand)
    && list_any (λ a. a.required && not (is_given a.id rows)) s.rules)

short_level : (s : Shape) (names : Names) (h : Held) (words : List Text) (has_subcommand : Bool)
    (below : Kinds) → s.is_leaf ≡ true → s.disable_help_subcommand ≡ true → IsShort below
    → IsShort (level_fault s names h words has_subcommand below)
short_level s names h words has_subcommand below leaf e b =
    let end = (walk.walk s.rules names h words).held in
    first _ _ (short_walk s names words (walk_from h) leaf e)
    (first _ _ b (first _ _ (short_settle s.rules s.args_override_self end)
    (first _ _ (short_defaults s.rules (settled s.rules end).rows)
    (short_checks s (finished s.rules end) has_subcommand))))

short_entered : (s : Shape) (stop : Option (Text × List Text))
    → IsShort (entered_fault (record { top = s; subs = [] }) stop)
short_entered s None = none
short_entered s (Some p) = none

-- at most one kind, for words of any form
pub one_kind : (s : Shape) (h : Held) (words : List Text) → s.is_leaf ≡ true
    → s.disable_help_subcommand ≡ true
    → length (built_fault (record { top = s; subs = [] }) h words) ≤ 1
one_kind s h words leaf e =
    let a : App = record { top = s; subs = [] } in
    let stop = (walk.walk s.rules (names_of a) h words).stopped in
    let short : IsShort (built_fault a h words) =
    short_level s (names_of a) h words (is_some (entered a stop)) (entered_fault a stop) leaf e
    (short_entered s stop) in short.is
