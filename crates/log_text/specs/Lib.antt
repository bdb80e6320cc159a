pub mod ShowTexts
