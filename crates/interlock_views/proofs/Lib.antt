mod Judged
mod Played
