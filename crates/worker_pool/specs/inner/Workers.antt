-- What workers have at their work, and the threads in which they are.
use Rattle.std.specs.Prelude.{◌≡◌, ℕ, ◌≤◌, Result, Ok, Err, [], length, vec_capacity, All}
use Rattle.std.specs.List.{sum_by}
use Rattle.worker_pool.specs.declared.hands.Relay.{Relay}
use Rattle.worker_pool.specs.declared.worker.Worker.{Worker}
use Rattle.worker_pool.specs.declared.worker.Workers.{Workers}
use Rattle.worker_pool.specs.Relays.{weight_of}
use Rattle.worker_pool.specs.Hands.{IsHandOf, IsOpened, held_by, number_of, opened_in, weight_by}

-- the hand is this relay's, with this number; the seats that are kept are of the relay's manager, and are just those that the hand holds
pub record IsAtWork {M : Type 0} (relay : Relay M) (number : ℕ) (worker : Worker M) : Type 0 where
  pub hand : IsHandOf relay worker.hand
  pub numbered : number_of worker.hand ≡ number
  pub opened : All (λ s. IsOpened relay s) worker.kept.items
  pub held : (h : ℕ → ℕ) → sum_by h (held_by worker.hand) ≡ weight_of h worker.kept.items
  pub room : length (opened_in relay) ≤ vec_capacity worker.kept

-- a member of the crew: a thread whose worker will be one of this relay, or such a worker that has no thread
abbrev pub IsMember : {M H : Type 0} → Relay M → (H → Relay M) → Result H (Worker M) → Type 0
IsMember relay relay_of (Ok thread) = relay_of thread ≡ relay
IsMember relay relay_of (Err worker) = IsAtWork relay (number_of worker.hand) worker

-- the number of its hand
abbrev pub number_by : {M H : Type 0} → (H → ℕ) → Result H (Worker M) → ℕ
number_by f (Ok thread) = f thread
number_by f (Err worker) = number_of worker.hand

-- the hands are this relay's and hold nothing, and for each there is an empty vector with room for all seats
pub record AreFresh {M : Type 0} (relay : Relay M) (workers : Workers M) : Type 0 where
  pub hands : All (λ h. IsHandOf relay h × (held_by h ≡ [])) workers.hands.items
  pub kept : All (λ v. (v.items ≡ []) × (length (opened_in relay) ≤ vec_capacity v)) workers.kept.items
  pub many : length workers.kept.items ≡ length workers.hands.items

-- the hands are this relay's; the seats that are kept are of its manager, and are just those that the hands hold
pub record AreBack {M : Type 0} (relay : Relay M) (workers : Workers M) : Type 0 where
  pub hands : All (λ h. IsHandOf relay h) workers.hands.items
  pub kept : All (λ v. All (λ s. IsOpened relay s) v.items) workers.kept.items
  pub held : (h : ℕ → ℕ) → sum_by (weight_by h) workers.hands.items ≡ sum_by (λ v. weight_of h v.items) workers.kept.items
