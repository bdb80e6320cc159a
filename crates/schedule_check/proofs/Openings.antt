-- The verdict by the places of the events: each fault of the first kinds, or all events placed.
use Rattle.std.proofs.Common.{◌≡◌, ℕ, ◌+◌, ◌^◌, ◌<◌, ◌↔◌, Some, List, length, map, get_or, sym, ◌∙◌, ap, subst, arith, Vec, Global}
use Rattle.std.specs.Prelude.{slice_index}
use Rattle.std.proofs.lemmas.List.{get_or_default}
use Rattle.light_base.specs.declared.tag.Event.{Event}
use Rattle.replay_model.specs.Logs.{Log}
use Rattle.replay_model.specs.Orders.{place, Respects}
use Rattle.replay_model.specs.WellFormed.{IsWellFormed}
use Rattle.replay_laws.proofs.Places.{place-contains}
use Rattle.order_judge.specs.declared.places.Placing.{Placing}
use Rattle.order_judge.specs.declared.places.Placing.TheVariants as placing
use Rattle.order_judge.specs.Places as judge
use Rattle.order_judge.specs.Places.{IsPlacing, IsOrder, ArePlaces}
use Rattle.order_judge.proofs.Filling as nodes
use Rattle.constraints.specs.Positions.{event_list}
use Rattle.constraints.proofs.Listed.{in_list}
use Rattle.schedule_check.specs.declared.faults.OrderFault.{OrderFault}
use Rattle.schedule_check.specs.declared.faults.OrderKind.TheVariants.{Unknown, Twice, Missing}
use Rattle.schedule_check.specs.declared.faults.Verdict.{Verdict}
use Rattle.schedule_check.specs.declared.faults.Verdict.TheVariants as verdict
use Rattle.schedule_check.specs.Faults.{fault, told, verdict_of, first_fault}
use Rattle.schedule_check.specs.Placed.{IsPlaced}
use Rattle.schedule_check.proofs.Saying.{first_is-unknown, first_is-twice, first_is-missing, says_respects}
use Rattle.schedule_check.proofs.Laying.{IsKnown, nodes_of, count_of, node-count, all_known, place-node, unknown_told, none_unknown, twice_told, none_twice, missing_told, none_missing, order_known, order_once, order_present}

-- these are the log's events, and these the positions of those of the order
pub record IsIndexed (log : Log) (order events : List Event) (positions : List ℕ) (count : ℕ) : Type 0 where
  pub formed : IsWellFormed log
  pub listed : events ≡ event_list log
  pub indexed : positions ≡ map (place events) order
  pub counted : count ≡ length events

pub placing_as : (log : Log) (order events : List Event) (positions : List ℕ) (count : ℕ) (found : Placing) → IsIndexed log order events positions count → IsPlacing count positions found → IsPlacing (count_of log) (nodes_of log order) found
placing_as log order events positions count found i h =
    let n : count ≡ count_of log = i.counted ∙ ap length i.listed in
    let p : positions ≡ nodes_of log order = i.indexed ∙ ap (λ (es : List Event). map (place es) order) i.listed in
    let P : ℕ → Type 0 = λ c. IsPlacing c positions found in
    let Q : List ℕ → Type 0 = λ ps. IsPlacing (count_of log) ps found in
    subst Q p (subst P n h)

tells : (log : Log) (order : List Event) (f : OrderFault) → first_fault log order ≡ Some f → verdict.Fault f ≡ verdict_of log order
tells log order f e = sym (ap told e)

pub verdict_unknown : (log : Log) (order events : List Event) (positions : List ℕ) (count k : ℕ) → IsIndexed log order events positions count → IsPlacing count positions (placing.Unknown k) → verdict.Fault (fault Unknown k 0) ≡ verdict_of log order
verdict_unknown log order events positions count k i h =
    tells log order (fault Unknown k 0) (first_is-unknown log order (fault Unknown k 0) (unknown_told log order i.formed k (placing_as log order events positions count (placing.Unknown k) i h)))

pub verdict_twice : (log : Log) (order events : List Event) (positions : List ℕ) (count k : ℕ) → IsIndexed log order events positions count → IsPlacing count positions (placing.Twice k) → verdict.Fault (fault Twice k 0) ≡ verdict_of log order
verdict_twice log order events positions count k i h =
    let (never, least) = placing_as log order events positions count (placing.Twice k) i h in
    let known = all_known log order i.formed never in
    tells log order (fault Twice k 0) (first_is-twice log order (fault Twice k 0) (none_unknown log order known) (twice_told log order known k least))

pub verdict_missing : (log : Log) (order events : List Event) (positions : List ℕ) (count k : ℕ) → IsIndexed log order events positions count → IsPlacing count positions (placing.Missing k) → verdict.Fault (fault Missing k 0) ≡ verdict_of log order
verdict_missing log order events positions count k i h =
    let (never, once, least) = placing_as log order events positions count (placing.Missing k) i h in
    let known = all_known log order i.formed never in
    tells log order (fault Missing k 0) (first_is-missing log order (fault Missing k 0) (none_unknown log order known) (none_twice log order known once) (missing_told log order known k least))

pub all_placed : (log : Log) (order events : List Event) (positions : List ℕ) (count : ℕ) (places : Vec ℕ Global) → IsIndexed log order events positions count → IsPlacing count positions (placing.Placed places) → length order < 2 ^ 32 →
    IsPlaced log order events places.items
all_placed log order events positions count places i h fits = go (placing_as log order events positions count (placing.Placed places) i h)
  where
    go : IsOrder (count_of log) (nodes_of log order) × ArePlaces (count_of log) (nodes_of log order) places.items → IsPlaced log order events places.items
    go (o, a) = record {
      formed = i.formed;
      listed = i.listed;
      each_once = record { unknown = none_unknown log order known; twice = none_twice log order known (order_once log order o); missing = none_missing log order known (order_present log order o) };
      count = a.count ∙ sym (ap length i.listed);
      same = λ e is.
          let below = place-contains (event_list log) e (in_list log i.formed e is) in
          ap (λ (es : List Event). slice_index places.items (place es e)) i.listed ∙ a.same (place (event_list log) e) below ∙ place-node log order known e is;
      small = λ x d l. small x d l;
    }
      where
        known : IsKnown log order
        known = all_known log order i.formed (order_known log order o)

        small : (x d : ℕ) → x < length places.items → get_or places.items x d + 1 < 2 ^ 32
        small x d l =
            let c = a.count in
            let m : x < count_of log = omega (arith, l, c) in
            let e : get_or places.items x d ≡ judge.place (nodes_of log order) x = get_or_default places.items x d 0 l ∙ a.same x m in
            let b = (nodes.at_place (nodes_of log order) x (o.all x m)).0 in
            let n = node-count log order in
            omega (arith, e, b, n, fits)

-- what the verdict says of the order
pub respects_told : (log : Log) (order : List Event) (answer : Verdict) → IsWellFormed log → answer ≡ verdict_of log order → (answer ≡ verdict.Respects) ↔ Respects log order
respects_told log order answer formed e =
    let (to, back) = says_respects log order formed in
    (λ h. to (sym e ∙ h), λ r. e ∙ back r)
