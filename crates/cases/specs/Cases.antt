-- Document 01's worked cases ("Holding the evaluator to its hand") as one list: what the definitions give, and what the paper says.
use Rattle.std.specs.Prelude.{◌≡◌, cond, List, [], ◌∷◌, ◌++◌, map, ℕ, ◌-◌, eqb, ℤ, pos, neg_ℤ, length, take, replicate, Option, None, Some}
use Prim.Native.String.{String}
use Rattle.kuhn_rules.specs.Rules.{PASS, BET}
use Rattle.kuhn.specs.Calls.{paid, saved_refusal}
use Rattle.kuhn.specs.declared.KuhnPoker.{KuhnPoker}
use Rattle.kuhn_positions.specs.declared.KuhnState.{KuhnState}
use Rattle.refusals.specs.Outcomes.{Paid, written}
use Rattle.leduc_betting.specs.Betting.{FOLD, CALL, RAISE}
use Rattle.leduc_rules.specs.Rules.{contribution}
use Rattle.leduc_rules.specs.Stakes.{ante, raise₁, raise₂}
use Rattle.leduc.specs.Calls as Leduc
use Rattle.leduc_positions.specs.Positions.{legal_of}
use Rattle.leduc.specs.Calls.{legal-refusal, listed, key_of, key-refusal, keyed}
use Rattle.leduc_positions.specs.declared.LeducState.{LeducState}
use Rattle.game_tree.specs.Table.{Table}
use Rattle.games.specs.Games.{Game, game_of}
use Rattle.worths.specs.Calls as Worths
use Rattle.worths.specs.declared.WorthsAnswer.{WorthsAnswer}
use Rattle.best_reply.specs.Calls as Reply
use Rattle.best_reply.specs.declared.ReplyAnswer.{ReplyAnswer}
use Rattle.nash_conv_units.specs.Calls as Conv
use Rattle.nash_conv_units.specs.declared.NashConvAnswer.{NashConvAnswer}
use Rattle.tree_refusals.specs.Checks.{evaluation_refusal, reply-refusal}

-- ---- what a case is

-- its letter, what the definitions give, what the paper says: payoffs, a refusal number,
-- a legal list, a key, or what a table is worth, each as a list of whole numbers
pub data Case : Type 0 where
  case : String → List ℤ → List ℤ → Case

abbrev pub given : Case → List ℤ
given (case name gives says) = gives

abbrev pub said : Case → List ℤ
said (case name gives says) = says

-- in every case the definitions give what the paper says
abbrev pub Agree : List Case → Type 0
Agree cs = map given cs ≡ map said cs

abbrev pub plus : ℕ → ℤ
plus k = pos k

abbrev pub minus : ℕ → ℤ
minus k = neg_ℤ (pos k)

-- a refusal alone
abbrev pub refusal : ℕ → List ℤ
refusal k = pos k ∷ []

-- ---- Kuhn

abbrev pub kuhn2 : KuhnPoker
kuhn2 = record { players = 2 }

-- the position with these cards and this history, 0 past them
abbrev pub kuhn_at : List ℕ → List ℕ → KuhnState
kuhn_at cs h =
    record { cards = cs ++ replicate (10 - length cs) 0; dealt = length cs; history = h ++ replicate (19 - length h) 0; acted = length h }

-- the payoffs of an answer: none, if the call was refused
abbrev pub payoffs : Paid KuhnState → List ℤ
payoffs r = take r.count r.payoffs

-- ---- Leduc

-- the position with these cards, this public card and these histories, 0 past them
abbrev pub leduc_at : List ℕ → Option ℕ → List ℕ → List ℕ → LeducState
leduc_at cs p h₁ h₂ = record {
  cards = cs ++ replicate (2 - length cs) 0;
  dealt = length cs;
  public = p;
  history = h₁ ++ replicate (4 - length h₁) 0 ++ h₂ ++ replicate (4 - length h₂) 0;
  acted1 = length h₁;
  acted2 = length h₂;
}

abbrev pub bytes : List ℕ → List ℤ
bytes bs = map pos bs

-- what the legal-list and key calls leave in an output of twenty bytes, as many as they say: none, if the call was refused
abbrev pub leduc-legal : LeducState → ℕ → List ℤ
leduc-legal s t = bytes (take (listed s t 20).count (written (legal-refusal s t 20) (legal_of s t) (replicate 20 0)))

abbrev pub leduc-key : LeducState → ℕ → List ℤ
leduc-key s t = bytes (take (keyed s t 20).count (written (key-refusal s t 20) (key_of s t) (replicate 20 0)))

-- what both seats have paid
abbrev pub paid_in : List ℕ → List ℕ → List ℤ
paid_in h₁ h₂ = pos (contribution ante raise₁ raise₂ h₁ h₂ 0) ∷ pos (contribution ante raise₁ raise₂ h₁ h₂ 1) ∷ []

abbrev pub leduc-payoffs : LeducState → List ℤ
leduc-payoffs s = take (Leduc.paid s).count (Leduc.paid s).payoffs

-- ---- tables of Kuhn 2

abbrev pub kuhn2_tables : Game
kuhn2_tables = game_of 0 2

-- 12 words for each of its 58 nodes
abbrev pub room : ℕ
room = 696

-- the worths of an answer, its value, its NashConv: none, if the call was refused
abbrev pub worths_in : WorthsAnswer → List ℤ
worths_in r = take r.count r.worths

abbrev pub value_in : ReplyAnswer → List ℤ
value_in r = cond (eqb r.refusal 0) (r.value ∷ []) []

abbrev pub conv_in : NashConvAnswer → List ℤ
conv_in r = cond (eqb r.refusal 0) (pos r.nash_conv ∷ []) []

-- what refuses a table with D parts in each set: 1 to 4, then 6 to 8
abbrev pub table-refusal : (D : ℕ) → Table → ℕ
table-refusal D table = evaluation_refusal kuhn2_tables room D table

-- what it is worth to both seats
abbrev pub worths : (D : ℕ) → Table → List ℤ
worths D table = worths_in (Worths.answer (table-refusal D table) kuhn2_tables D table)

-- the refusal of the reply call, with an output of 24 bytes
abbrev pub refused : (seat D : ℕ) → Table → ℕ
refused seat D table = reply-refusal kuhn2_tables room seat D table 24

-- a seat's best value, and what the call leaves in the output
abbrev pub best : (seat D : ℕ) → Table → List ℤ
best seat D table = value_in (Reply.answer (refused seat D table) kuhn2_tables seat D table)

abbrev pub reply : (seat D : ℕ) → Table → List ℤ
reply seat D table = bytes (Reply.written (refused seat D table) kuhn2_tables seat D table (replicate 24 0))

abbrev pub conv : (D : ℕ) → Table → List ℤ
conv D table = conv_in (Conv.answer (table-refusal D table) kuhn2_tables D table)

-- both worths, both best values, NashConv
abbrev pub evaluated : (D : ℕ) → Table → List ℤ
evaluated D table = worths D table ++ best 0 D table ++ best 1 D table ++ conv D table

-- always PASS; and the same with BET as the hand's first action of seat 0 on 0 and 1, which are its first set and the seventh of all
abbrev pub passes : Table
passes = 1 ∷ 0 ∷ 1 ∷ 0 ∷ 1 ∷ 0 ∷ 1 ∷ 0 ∷ 1 ∷ 0 ∷ 1 ∷ 0 ∷ 1 ∷ 0 ∷ 1 ∷ 0 ∷ 1 ∷ 0 ∷ 1 ∷ 0 ∷ 1 ∷ 0 ∷ 1 ∷ 0 ∷ []

abbrev pub bluffs : Table
bluffs = 0 ∷ 1 ∷ 1 ∷ 0 ∷ 1 ∷ 0 ∷ 1 ∷ 0 ∷ 1 ∷ 0 ∷ 1 ∷ 0 ∷ 0 ∷ 1 ∷ 1 ∷ 0 ∷ 1 ∷ 0 ∷ 1 ∷ 0 ∷ 1 ∷ 0 ∷ 1 ∷ 0 ∷ []

-- an equilibrium
abbrev pub settled : Table
settled = 3 ∷ 0 ∷ 3 ∷ 0 ∷ 3 ∷ 0 ∷ 2 ∷ 1 ∷ 0 ∷ 3 ∷ 0 ∷ 3 ∷ 3 ∷ 0 ∷ 2 ∷ 1 ∷ 2 ∷ 1 ∷ 3 ∷ 0 ∷ 3 ∷ 0 ∷ 0 ∷ 3 ∷ []

-- ---- the cases

abbrev pub cases : List Case
cases =
    case "a" (payoffs (paid kuhn2 (kuhn_at (0 ∷ 1 ∷ []) (PASS ∷ PASS ∷ [])))) (minus 1 ∷ plus 1 ∷ [])
    ∷ case "b" (payoffs (paid kuhn2 (kuhn_at (0 ∷ 1 ∷ []) (BET ∷ PASS ∷ [])))) (plus 1 ∷ minus 1 ∷ [])
    ∷ case "c" (payoffs (paid kuhn2 (kuhn_at (2 ∷ 0 ∷ []) (PASS ∷ BET ∷ BET ∷ [])))) (plus 2 ∷ minus 2 ∷ [])
    ∷ case "d" (refusal (saved_refusal kuhn2 (kuhn_at (0 ∷ 1 ∷ []) (PASS ∷ PASS ∷ BET ∷ [])) 1)) (refusal 14)
    ∷ case "e" (leduc-legal (leduc_at (0 ∷ 5 ∷ []) None [] []) 0) (bytes (CALL ∷ RAISE ∷ []))
    ∷ case "f" (leduc-legal (leduc_at (0 ∷ 5 ∷ []) None (RAISE ∷ []) []) 1) (bytes (FOLD ∷ CALL ∷ RAISE ∷ []))
    ∷ case "g" (leduc-legal (leduc_at (0 ∷ 5 ∷ []) None (RAISE ∷ RAISE ∷ []) []) 0) (bytes (FOLD ∷ CALL ∷ []))
    ∷ case "h" (leduc-payoffs (leduc_at (0 ∷ 5 ∷ []) (Some 1) (CALL ∷ CALL ∷ []) (CALL ∷ CALL ∷ []))) (plus 1 ∷ minus 1 ∷ [])
    ∷ case "i" (paid_in (RAISE ∷ RAISE ∷ CALL ∷ []) (RAISE ∷ RAISE ∷ CALL ∷ [])
    ++ leduc-payoffs (leduc_at (0 ∷ 1 ∷ []) (Some 2) (RAISE ∷ RAISE ∷ CALL ∷ []) (RAISE ∷ RAISE ∷ CALL ∷ [])))
    (plus 13 ∷ plus 13 ∷ plus 0 ∷ plus 0 ∷ [])
    ∷ case "j" (leduc-key (leduc_at (0 ∷ 4 ∷ []) None (RAISE ∷ []) []) 1) (bytes (1 ∷ 4 ∷ 255 ∷ 1 ∷ 2 ∷ 0 ∷ []))
    ∷ case "k" (evaluated 1 passes ++ reply 0 1 passes) ((plus 0 ∷ plus 0 ∷ plus 6 ∷ plus 6 ∷ plus 12 ∷ []) ++ bytes bluffs)
    ∷ case "l" (evaluated 3 settled) (minus 9 ∷ plus 9 ∷ minus 9 ∷ plus 9 ∷ plus 0 ∷ [])
    ∷ []
