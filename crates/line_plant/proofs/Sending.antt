-- Lemmas on what a device was sent.
use Rattle.std.proofs.Common.{◌≡◌, ◌⊎◌, inl, inr, if◌then◌else◌, ℕ, ℤ, Result, Ok, Err, is_ok, Bool, true, false, List, [], ◌∷◌, ◌++◌, take, drop, Option, None, Some, append-nil, append_assoc, refl, ap, sym, ◌∙◌, subst, true≢false}
use mathlib.Core.List.{IsPrefix}
use Rattle.std.proofs.lemmas.List.{take-append-drop}
use Rattle.std.specs.Io.KnownBytes.{append_known, prepend_known}
use Rattle.caa_base.proofs.KnownBytes.{append_known-append_known, prepend_known-more}
use Rattle.caa_base.specs.Outside.Counts.{counted_up}
use Rattle.caa_base.specs.Written.Names.{name_at}
use Rattle.caa_base.specs.declared.written.entry.Drill.{Drill}
use Rattle.caa_base.specs.declared.written.entry.Entry.{Entry}
use Rattle.caa_base.specs.declared.outside.plant.Asked.{Asked}
use Rattle.caa_base.specs.declared.outside.plant.Asked.TheVariants as asked
use Rattle.caa_base.specs.declared.outside.plant.PlantError.{PlantError}
use Rattle.caa_base.specs.declared.outside.plant.PlantError.TheVariants as refusal
use Rattle.caa_base.specs.declared.outside.source.Source.{Ghosts as SourceGhosts}
use Rattle.caa_base.specs.declared.outside.sink.Sink.{Ghosts as SinkGhosts}
use Rattle.line_plant.specs.declared.hearing.Answer.{Answer}
use Rattle.line_plant.specs.declared.hearing.Answer.TheVariants as answer
use Rattle.line_plant.specs.declared.told.Told.{Told}
use Rattle.line_plant.specs.declared.wire.Wire.{Wire}
use Rattle.line_plant.specs.Answers.{is_well, well_line, failed_line}
use Rattle.line_plant.specs.Devices.{LayCame}
use Rattle.line_plant.specs.Lines.{lay_line, asking_line, stop_line}
use Rattle.line_plant.specs.Wires.{AskCame, WasAnswered, WroteLine, WroteLinePart, WasStopped, SentStop, SentNoStop}
use Rattle.line_plant.specs.Sent.{was_done, answer_line, NoneDone, word_of, AsksFor, IsSilent, AreLines, IsUnanswered, IsUncut, WasSent}
use Rattle.line_plant.specs.inner.Telling.{Keeps}

-- one line more, and its answer
pub line_behind : (names : List (List ℕ)) (number : ℕ) (all : List Asked) (after : ℕ) (bytes answers : List ℕ) (a : Asked) (line : List ℕ)
    → AreLines names number all after bytes answers → AsksFor names after a line
    → AreLines names number (all ++ a ∷ []) (counted_up after) (bytes ++ line) (answers ++ answer_line after a)
line_behind names number [] after bytes answers a line (same, none, unheard) asks =
    inl (
      line,
      [],
      [],
      subst (λ n. AsksFor names n a line) same asks,
      (ap counted_up same, refl, refl),
      ap (λ t. t ++ line) none ∙ sym (append-nil line),
      ap (λ t. t ++ answer_line after a) unheard ∙ ap (λ n. answer_line n a) same ∙ sym (append-nil (answer_line number a)),
    )
line_behind names number (x ∷ more) after bytes answers a line (inl (first, behind, later, is, are, joined, heard)) asks =
    inl (
      first,
      behind ++ line,
      later ++ answer_line after a,
      is,
      line_behind names (counted_up number) more after behind later a line are asks,
      ap (λ t. t ++ line) joined ∙ append_assoc first behind line,
      ap (λ t. t ++ answer_line after a) heard ∙ append_assoc (answer_line number x) later (answer_line after a),
    )
line_behind names number (x ∷ more) after bytes answers a line (inr (is, are)) asks =
    inr (is, line_behind names number more after bytes answers a line are asks)

-- one thing more, without a line
pub unlaid_behind : (names : List (List ℕ)) (number : ℕ) (all : List Asked) (after : ℕ) (bytes answers : List ℕ) (a : Asked)
    → AreLines names number all after bytes answers → IsSilent a → AreLines names number (all ++ a ∷ []) after bytes answers
unlaid_behind names number [] after bytes answers a are unlaid = inr (unlaid, are)
unlaid_behind names number (x ∷ more) after bytes answers a (inl (first, behind, later, is, are, joined, heard)) unlaid =
    inl (first, behind, later, is, unlaid_behind names (counted_up number) more after behind later a are unlaid, joined, heard)
unlaid_behind names number (x ∷ more) after bytes answers a (inr (is, are)) unlaid =
    inr (is, unlaid_behind names number more after bytes answers a are unlaid)

-- one thing more that wasn't done
pub undone_behind : (all : List Asked) (a : Asked) → NoneDone all → was_done a ≡ false → NoneDone (all ++ a ∷ [])
undone_behind [] a none is = (is, tt)
undone_behind (x ∷ more) a (first, none) is = (first, undone_behind more a none is)

-- what was sent of the first that got no answer stays that
pub still_last : (names : List (List ℕ)) (number : ℕ) (all : List Asked) (bytes : List ℕ) (a : Asked)
    → IsUnanswered names number all bytes → IsUnanswered names number (all ++ a ∷ []) bytes
still_last names number [] bytes a is = inl is
still_last names number (x ∷ more) bytes a is = is

-- and it stays uncut
pub still_uncut : (names : List (List ℕ)) (number : ℕ) (all : List Asked) (bytes : List ℕ) (a : Asked)
    → IsUncut names number all bytes → IsUncut names number (all ++ a ∷ []) bytes
still_uncut names number [] bytes a is = inl is
still_uncut names number (x ∷ more) bytes a is = is

-- the sink holds what it held, and more behind it
pub more_held : {K : Type 0} (sinks : SinkGhosts K) (start : Option (List ℕ)) (bytes text : List ℕ) (before after : K)
    → sinks.held before ≡ append_known start bytes → sinks.held after ≡ append_known (sinks.held before) text
    → sinks.held after ≡ append_known start (bytes ++ text)
more_held sinks start bytes text before after held sent =
    sent ∙ ap (λ known. append_known known text) held ∙ append_known-append_known start bytes text

-- the first bytes of some bytes are a front of them
pub take_front : (n : ℕ) (bytes : List ℕ) → IsPrefix (take n bytes) bytes
take_front n bytes = (drop n bytes, take-append-drop n bytes)

-- the line that answers is the one that was heard
pub answered_by : (number : ℕ) (a : Asked) (came : Bool) → was_done a ≡ came
    → answer_line number a ≡ (if came then well_line number else failed_line number)
answered_by number a came is = ap (λ b. if b then well_line number else failed_line number) is

-- no `stop` was sent yet
abbrev pub unstopped : (names : List (List ℕ)) (all : List Asked) (bytes answers stop : List ℕ) → stop ≡ []
    → WasSent names all stop bytes answers → WasSent names all [] bytes answers
unstopped names all bytes answers stop none s = record {
  answered = s.answered;
  unanswered = s.unanswered;
  parts = s.parts;
  none_done = s.none_done;
  next = s.next;
  lines = s.lines;
  in_lines = s.in_lines;
  last = s.last;
  is_last = s.is_last;
  is_front = (stop_line, refl);
  behind = inl refl;
  joined = s.joined ∙ ap (λ t. s.lines ++ s.last ++ t) none;
}

-- `stop`, or a front of it, is sent behind all else
abbrev pub stop_behind : (names : List (List ℕ)) (all : List Asked) (bytes answers stop : List ℕ) (s : WasSent names all [] bytes answers)
    → IsUncut names s.next s.unanswered s.last → IsPrefix stop stop_line → WasSent names all stop (bytes ++ stop) answers
stop_behind names all bytes answers stop s uncut front = record {
  answered = s.answered;
  unanswered = s.unanswered;
  parts = s.parts;
  none_done = s.none_done;
  next = s.next;
  lines = s.lines;
  in_lines = s.in_lines;
  last = s.last;
  is_last = s.is_last;
  is_front = front;
  behind = inr uncut;
  joined = ap (λ t. t ++ stop) (s.joined ∙ append-nil (s.lines ++ s.last));
}

-- nothing behind known bytes
pub append_nothing : (known : Option (List ℕ)) → append_known known [] ≡ known
append_nothing None = refl
append_nothing (Some bytes) = ap Some (append-nil bytes)

-- nothing before known bytes
pub prepend_nothing : (known : Option (List ℕ)) → prepend_known [] known ≡ known
prepend_nothing None = refl
prepend_nothing (Some bytes) = refl

-- it was told what was asked
same_told : {K : Type 0} (told after : Told K) (all : List Asked) → after.asked ≡ all → after.opened ≡ told.opened
    → record told { asked = all } ≡ after
same_told told after all asked opened =
    subst (λ xs. record told { asked = xs } ≡ after) asked
    (subst (λ o. record told { asked = after.asked; opened = o } ≡ after) opened refl)

module _ {S K : Type 0} (sources : SourceGhosts S) (sinks : SinkGhosts K) (names : List (List ℕ)) (listened : Told S) where
  -- ---- a wire that holds

  -- everything was answered
  standing : (told : Told K) (wire : Wire S K) (k : Keeps sources sinks names listened told wire) → wire.is_broken ≡ false
      → AreLines names 0 told.asked wire.next k.bytes k.answers
  standing told wire k unbroken =
      let s = k.sent in
      let (none, same, unstopped, left, running) = k.whole unbroken in
      let no_last : s.last ≡ [] = subst (λ all. IsUnanswered names s.next all s.last) none s.is_last in
      let all : s.answered ≡ told.asked = sym (s.parts ∙ ap (λ more. s.answered ++ more) none ∙ append-nil s.answered) in
      let bytes_are : s.lines ≡ k.bytes =
      sym (s.joined ∙ ap (λ t. s.lines ++ t ++ k.stop) no_last ∙ ap (λ t. s.lines ++ [] ++ t) unstopped
      ∙ append-nil (s.lines ++ []) ∙ append-nil s.lines) in
      subst (λ t. AreLines names 0 told.asked wire.next t k.answers) bytes_are
      (subst (λ n. AreLines names 0 told.asked n s.lines k.answers) same
      (subst (λ xs. AreLines names 0 xs s.next s.lines k.answers) all s.in_lines))

  -- and what is left of the source stands behind the answers
  left_behind : (told : Told K) (wire : Wire S K) (k : Keeps sources sinks names listened told wire) → wire.is_broken ≡ false
      → sources.left listened.opened ≡ prepend_known k.answers (sources.left wire.answers)
  left_behind told wire k unbroken =
      let (none, same, unstopped, left, running) = k.whole unbroken in k.heard ∙ ap (prepend_known k.answers) left

  -- so it is where all that was sent are lines, and all were answered
  keeps_whole : (told : Told K) (wire : Wire S K) (bytes answers : List ℕ) → AreLines names 0 told.asked wire.next bytes answers
      → sinks.held wire.commands ≡ append_known (sinks.held told.opened) bytes
      → sources.left listened.opened ≡ prepend_known answers (sources.left wire.answers)
      → wire.was_stopped ≡ false → Keeps sources sinks names listened told wire
  keeps_whole told wire bytes answers are held heard unstopped = record {
    bytes = bytes;
    stop = [];
    answers = answers;
    sent = record {
      answered = told.asked;
      unanswered = [];
      parts = sym (append-nil told.asked);
      none_done = tt;
      next = wire.next;
      lines = bytes;
      in_lines = are;
      last = [];
      is_last = refl;
      is_front = (stop_line, refl);
      behind = inl refl;
      joined = sym (append-nil (bytes ++ []) ∙ append-nil bytes);
    };
    held = held;
    rest = sources.left wire.answers;
    heard = heard;
    uncut = λ _. refl;
    unstopped = λ _ _. refl;
    stopped = λ _ stopped. absurd (true≢false (sym stopped ∙ unstopped));
    whole = λ _. (refl, refl, refl, refl, unstopped);
  }

  -- as long as it holds, `stop` wasn't sent
  running : (told : Told K) (wire : Wire S K) → Keeps sources sinks names listened told wire → wire.is_broken ≡ false
      → wire.was_stopped ≡ false
  running told wire k unbroken = let (none, same, unstopped, left, running) = k.whole unbroken in running

  -- ---- a wire that is broken

  -- what isn't answered breaks it
  keeps_broken : (told : Told K) (a : Asked) (wire : Wire S K) (next : ℕ) (bytes last answers : List ℕ) (rest : Option (List ℕ))
      → AreLines names 0 told.asked next bytes answers → was_done a ≡ false → IsUnanswered names next (a ∷ []) last
      → (wire.is_cut ≡ false → IsUncut names next (a ∷ []) last)
      → sinks.held wire.commands ≡ append_known (sinks.held told.opened) (bytes ++ last)
      → sources.left listened.opened ≡ prepend_known answers rest → wire.is_broken ≡ true → wire.was_stopped ≡ false
      → Keeps sources sinks names listened (record told { asked = told.asked ++ a ∷ [] }) wire
  keeps_broken told a wire next bytes last answers rest are undone is_last uncut held heard broken running = record {
    bytes = bytes ++ last;
    stop = [];
    answers = answers;
    sent = record {
      answered = told.asked;
      unanswered = a ∷ [];
      parts = refl;
      none_done = (undone, tt);
      next = next;
      lines = bytes;
      in_lines = are;
      last = last;
      is_last = is_last;
      is_front = (stop_line, refl);
      behind = inl refl;
      joined = sym (append-nil (bytes ++ last));
    };
    held = held;
    rest = rest;
    heard = heard;
    uncut = uncut;
    unstopped = λ _ _. refl;
    stopped = λ _ stopped. absurd (true≢false (sym stopped ∙ running));
    whole = λ unbroken. absurd (true≢false (sym broken ∙ unbroken));
  }

  -- nothing is sent on it any longer
  keeps_out : (told : Told K) (a : Asked) (wire : Wire S K) → Keeps sources sinks names listened told wire → wire.is_broken ≡ true
      → was_done a ≡ false → Keeps sources sinks names listened (record told { asked = told.asked ++ a ∷ [] }) wire
  keeps_out told a wire k broken undone = let s = k.sent in record {
    bytes = k.bytes;
    stop = k.stop;
    answers = k.answers;
    sent = record {
      answered = s.answered;
      unanswered = s.unanswered ++ a ∷ [];
      parts = ap (λ all. all ++ a ∷ []) s.parts ∙ append_assoc s.answered s.unanswered (a ∷ []);
      none_done = undone_behind s.unanswered a s.none_done undone;
      next = s.next;
      lines = s.lines;
      in_lines = s.in_lines;
      last = s.last;
      is_last = still_last names s.next s.unanswered s.last a s.is_last;
      is_front = s.is_front;
      behind = elim s.behind [
        | inl none ↦ inl none
        | inr whole ↦ inr (still_uncut names s.next s.unanswered s.last a whole)
      ];
      joined = s.joined;
    };
    held = k.held;
    rest = k.rest;
    heard = k.heard;
    uncut = λ whole. still_uncut names s.next s.unanswered s.last a (k.uncut whole);
    unstopped = k.unstopped;
    stopped = k.stopped;
    whole = λ unbroken. absurd (true≢false (sym broken ∙ unbroken));
  }

  -- ---- what the calls do

  module _ (told : Told K) (a : Asked) (before after : Wire S K) (text : List ℕ) (k : Keeps sources sinks names listened told before)
      (asks : AsksFor names before.next a text) where
    -- the line was answered by this one
    by_answer : (heard : List ℕ) → answer_line before.next a ≡ heard → before.is_broken ≡ false
        → sinks.held after.commands ≡ append_known (sinks.held before.commands) text
        → sources.left before.answers ≡ prepend_known heard (sources.left after.answers) → after.next ≡ counted_up before.next
        → after.was_stopped ≡ before.was_stopped
        → Keeps sources sinks names listened (record told { asked = told.asked ++ a ∷ [] }) after
    by_answer heard is able sent taken numbered stopped =
        keeps_whole (record told { asked = told.asked ++ a ∷ [] }) after (k.bytes ++ text) (k.answers ++ heard)
        (subst (λ t. AreLines names 0 (told.asked ++ a ∷ []) after.next (k.bytes ++ text) (k.answers ++ t)) is
        (subst (λ n. AreLines names 0 (told.asked ++ a ∷ []) n (k.bytes ++ text) (k.answers ++ answer_line before.next a)) (sym numbered)
        (line_behind names 0 told.asked before.next k.bytes k.answers a text (standing told before k able) asks)))
        (more_held sinks (sinks.held told.opened) k.bytes text before.commands after.commands k.held sent)
        (prepend_known-more (sources.left listened.opened) (sources.left before.answers) (sources.left after.answers) k.answers heard
        (left_behind told before k able) taken)
        (stopped ∙ running told before k able)

    -- a line was sent, and an answer awaited
    keeps_answered : (came : Answer) → was_done a ≡ is_well came → WasAnswered sources sinks before after text came
        → Keeps sources sinks names listened (record told { asked = told.asked ++ a ∷ [] }) after
    keeps_answered answer.Lost undone w =
        keeps_broken told a after before.next k.bytes text k.answers (sources.left before.answers) (standing told before k w.able) undone
        (inr (text, asks, ([], append-nil text))) (λ _. inr asks)
        (more_held sinks (sinks.held told.opened) k.bytes text before.commands after.commands k.held w.sent)
        (left_behind told before k w.able) w.broken (w.stopped ∙ running told before k w.able)
    keeps_answered answer.Well done w =
        by_answer (well_line before.next) (answered_by before.next a true done) w.able w.sent w.heard.taken w.numbered w.stopped
    keeps_answered answer.Failed undone w =
        by_answer (failed_line before.next) (answered_by before.next a false undone) w.able w.sent w.heard.taken w.numbered w.stopped

    -- the device was asked by a line
    keeps_asked : (came : Answer) → was_done a ≡ is_well came → AskCame sources sinks before after text came
        → Keeps sources sinks names listened (record told { asked = told.asked ++ a ∷ [] }) after
    keeps_asked came undone (inl w) = keeps_answered came undone w
    keeps_asked answer.Lost undone (inr (inl cut)) =
        keeps_broken told a after before.next k.bytes (take cut.part.count text) k.answers (sources.left before.answers)
        (standing told before k cut.able) undone (inr (text, asks, take_front cut.part.count text))
        (λ whole. absurd (true≢false (sym cut.cut ∙ whole)))
        (more_held sinks (sinks.held told.opened) k.bytes (take cut.part.count text) before.commands after.commands k.held cut.part.front)
        (left_behind told before k cut.able) cut.broken (cut.stopped ∙ running told before k cut.able)
    keeps_asked answer.Lost undone (inr (inr out)) =
        subst (Keeps sources sinks names listened (record told { asked = told.asked ++ a ∷ [] })) (sym out.kept)
        (keeps_out told a before k out.cause undone)
    keeps_asked answer.Well undone (inr none) = absurd none
    keeps_asked answer.Failed undone (inr none) = absurd none

  -- something came of which nothing is sent
  keeps_unasked : (told : Told K) (a : Asked) (wire : Wire S K) → Keeps sources sinks names listened told wire → IsSilent a
      → was_done a ≡ false → Keeps sources sinks names listened (record told { asked = told.asked ++ a ∷ [] }) wire
  keeps_unasked told a wire k unlaid undone = by_wire wire.is_broken refl where
    by_wire : (broken : Bool) → wire.is_broken ≡ broken
        → Keeps sources sinks names listened (record told { asked = told.asked ++ a ∷ [] }) wire
    by_wire true is = keeps_out told a wire k is undone
    by_wire false is =
        keeps_whole (record told { asked = told.asked ++ a ∷ [] }) wire k.bytes k.answers
        (unlaid_behind names 0 told.asked wire.next k.bytes k.answers a (standing told wire k is) unlaid) k.held (left_behind told wire k is)
        (running told wire k is)

  -- the device was given up
  pub keeps_stopped : (told : Told K) (before after : Wire S K) → Keeps sources sinks names listened told before
      → WasStopped sinks before after → Keeps sources sinks names listened told after
  keeps_stopped told before after k w = by_case w.came where
    spent_by : (stop : List ℕ) → (after.is_cut ≡ true) ⊎ (after.was_stopped ≡ true) → after.is_cut ≡ false → after.was_stopped ≡ false
        → stop ≡ []
    spent_by stop (inl cut) uncut unstopped = absurd (true≢false (sym cut ∙ uncut))
    spent_by stop (inr stopped) uncut unstopped = absurd (true≢false (sym stopped ∙ unstopped))

    spent : (stop bytes : List ℕ) (sent : WasSent names told.asked stop bytes k.answers)
        → (after.is_cut ≡ false → IsUncut names sent.next sent.unanswered sent.last)
        → sinks.held after.commands ≡ append_known (sinks.held told.opened) bytes → (after.is_cut ≡ false → stop ≡ stop_line)
        → Keeps sources sinks names listened told after
    spent stop bytes sent uncut held whole = record {
      bytes = bytes;
      stop = stop;
      answers = k.answers;
      sent = sent;
      held = held;
      rest = k.rest;
      heard = k.heard;
      uncut = uncut;
      unstopped = spent_by stop w.ended.spent;
      stopped = λ uncut _. whole uncut;
      whole = λ unbroken. absurd (true≢false (sym w.ended.broken ∙ unbroken));
    }

    behind : (stop : List ℕ) → SentStop sinks before after → IsPrefix stop stop_line
        → sinks.held after.commands ≡ append_known (sinks.held before.commands) stop → (after.is_cut ≡ false → stop ≡ stop_line)
        → Keeps sources sinks names listened told after
    behind stop sent front written whole =
        spent stop (k.bytes ++ stop)
        (stop_behind names told.asked k.bytes k.answers stop
        (unstopped names told.asked k.bytes k.answers k.stop (k.unstopped sent.uncut sent.first) k.sent) (k.uncut sent.uncut) front)
        (λ _. k.uncut sent.uncut)
        (more_held sinks (sinks.held told.opened) k.bytes stop before.commands after.commands k.held written) whole

    by_case : SentStop sinks before after ⊎ SentNoStop before after → Keeps sources sinks names listened told after
    by_case (inl sent) = by_write sent sent.sent where
      by_write : SentStop sinks before after
          → (WroteLine sinks before.commands after.commands stop_line × (after.is_cut ≡ false))
          ⊎ (WroteLinePart sinks before.commands after.commands stop_line × (after.is_cut ≡ true))
          → Keeps sources sinks names listened told after
      by_write sent (inl (wrote, uncut)) = behind stop_line sent ([], append-nil stop_line) wrote.whole (λ _. refl)
      by_write sent (inr (part, cut)) =
          behind (take part.part.count stop_line) sent (take_front part.part.count stop_line) part.part.front
          (λ uncut. absurd (true≢false (sym cut ∙ uncut)))
    by_case (inr none) =
        spent k.stop k.bytes k.sent (λ whole. k.uncut (sym none.cut ∙ whole)) (ap sinks.held none.kept ∙ k.held)
        (λ uncut. by_cause (sym none.cut ∙ uncut) none.cause) where
          by_cause : before.is_cut ≡ false → (before.is_cut ≡ true) ⊎ (before.was_stopped ≡ true) → k.stop ≡ stop_line
          by_cause uncut (inl cut) = absurd (true≢false (sym cut ∙ uncut))
          by_cause uncut (inr stopped) = k.stopped uncut stopped

  -- ---- what a method comes to

  -- nothing was asked, sent or heard yet
  pub keeps_first : (told : Told K) (wire : Wire S K) → told.asked ≡ [] → told.opened ≡ wire.commands → listened.opened ≡ wire.answers
      → wire.next ≡ 0 → wire.was_stopped ≡ false → Keeps sources sinks names listened told wire
  keeps_first told wire none same heard first running =
      keeps_whole told wire [] []
      (subst (λ all. AreLines names 0 all wire.next [] []) (sym none) (first, refl, refl))
      (ap sinks.held (sym same) ∙ sym (append_nothing (sinks.held told.opened)))
      (ap sources.left heard ∙ sym (prepend_nothing (sources.left wire.answers))) running

  -- more was heard, of a wire that was broken
  pub keeps_heard : (told : Told K) (before after : Wire S K) → Keeps sources sinks names listened told before
      → after ≡ record before { answers = after.answers; heard = after.heard } → before.is_broken ≡ true
      → Keeps sources sinks names listened told after
  keeps_heard told before after k same broken = subst (Keeps sources sinks names listened told) (sym same) (record {
    bytes = k.bytes;
    stop = k.stop;
    answers = k.answers;
    sent = k.sent;
    held = k.held;
    rest = k.rest;
    heard = k.heard;
    uncut = k.uncut;
    unstopped = k.unstopped;
    stopped = k.stopped;
    whole = λ unbroken. absurd (true≢false (sym broken ∙ unbroken));
  })

  keeps_told : (told after : Told K) (all : List Asked) (wire : Wire S K)
      → Keeps sources sinks names listened (record told { asked = all }) wire → after.asked ≡ all → after.opened ≡ told.opened
      → Keeps sources sinks names listened after wire
  keeps_told told after all wire k asked opened =
      subst (λ t. Keeps sources sinks names listened t wire) (same_told told after all asked opened) k

  -- a put was asked for, and told
  pub keeps_put : (told after_told : Told K) (before after : Wire S K) (object : ℕ) (value : ℤ) (back : Bool) (came : Answer)
      → Keeps sources sinks names listened told before
      → AskCame sources sinks before after (asking_line (word_of back) before.next (name_at names object) value) came
      → after_told.asked ≡ told.asked ++ asked.Put object value back (is_well came) ∷ [] → after_told.opened ≡ told.opened
      → Keeps sources sinks names listened after_told after
  keeps_put told after_told before after object value back came k asks all opened =
      keeps_told told after_told (told.asked ++ asked.Put object value back (is_well came) ∷ []) after
      (keeps_asked told (asked.Put object value back (is_well came)) before after
      (asking_line (word_of back) before.next (name_at names object) value) k refl came refl asks) all opened

  -- an entry was told
  pub keeps_entered : (told after_told : Told K) (wire : Wire S K) (e : Entry) → Keeps sources sinks names listened told wire
      → after_told.asked ≡ told.asked ++ asked.Entered e ∷ [] → after_told.opened ≡ told.opened
      → Keeps sources sinks names listened after_told wire
  keeps_entered told after_told wire e k all opened =
      keeps_told told after_told (told.asked ++ asked.Entered e ∷ []) wire
      (keeps_unasked told (asked.Entered e) wire k tt refl) all opened

  -- a laying out was asked for
  keeps_lay : (told : Told K) (before after : Wire S K) (values : List ℤ) (drills : List Drill) (puts : ℕ) {T : Type 0}
      (came : Result T PlantError) → Keeps sources sinks names listened told before → LayCame sources sinks names before after values came
      → Keeps sources sinks names listened (record told { asked = told.asked ++ asked.Laid values drills puts (is_ok came) ∷ [] }) after
  keeps_lay told before after values drills puts (Ok v) k lay =
      keeps_answered told (asked.Laid values drills puts true) before after (lay_line before.next names values) k refl
      answer.Well refl lay
  keeps_lay told before after values drills puts (Err refusal.Failed) k (inl (inl refused)) =
      keeps_asked told (asked.Laid values drills puts false) before after (lay_line before.next names values) k refl
      answer.Failed refl refused
  keeps_lay told before after values drills puts (Err refusal.Failed) k (inl (inr lost)) =
      keeps_asked told (asked.Laid values drills puts false) before after (lay_line before.next names values) k refl
      answer.Lost refl lost
  keeps_lay told before after values drills puts (Err refusal.Failed) k (inr unfit) =
      subst (Keeps sources sinks names listened (record told { asked = told.asked ++ asked.Laid values drills puts false ∷ [] }))
      (sym unfit.kept) (keeps_unasked told (asked.Laid values drills puts false) before k refl refl)
  keeps_lay told before after values drills puts (Err refusal.OutOfMemory) k kept =
      subst (Keeps sources sinks names listened (record told { asked = told.asked ++ asked.Laid values drills puts false ∷ [] }))
      (sym kept) (keeps_unasked told (asked.Laid values drills puts false) before k refl refl)

  -- the same, told
  pub keeps_laid : (told after_told : Told K) (before after : Wire S K) (values : List ℤ) (drills : List Drill) (puts : ℕ) {T : Type 0}
      (came : Result T PlantError) (done : Bool) → Keeps sources sinks names listened told before
      → LayCame sources sinks names before after values came → done ≡ is_ok came
      → after_told.asked ≡ told.asked ++ asked.Laid values drills puts done ∷ [] → after_told.opened ≡ told.opened
      → Keeps sources sinks names listened after_told after
  keeps_laid told after_told before after values drills puts came done k lay is all opened =
      keeps_told told after_told (told.asked ++ asked.Laid values drills puts (is_ok came) ∷ []) after
      (keeps_lay told before after values drills puts came k lay)
      (all ∙ ap (λ d. told.asked ++ asked.Laid values drills puts d ∷ []) is) opened
