mod Accepted
mod Faultless
mod OneMoreEnd
mod Whole
